use Rattle.pipeline.proofs.Forms.{may_print}
use Rattle.pipeline.proofs.passes.decompile.Goals as goal

pub returns-clause-text : goal.returns-clause-text
returns-clause-text c =
    may_print c.args.bytes.now _ c.in_ok-accepted.accepted.listing c.in_ok-accepted.accepted.frame
    c.in_ok-function.function c.in_ok-accepted.ensures.accepted.good.read c.in_ok-accepted.ensures.passed.frame
    c.in_ok-function.ensures c.in_ok-text.ensures
