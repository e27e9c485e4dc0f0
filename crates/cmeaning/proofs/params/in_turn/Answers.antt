use Rattle.std.proofs.Common.{◌+◌, sym, subst}
use Rattle.cmeaning.proofs.Order.{Left, param_came, param_failed, params_end}
use Rattle.cmeaning.proofs.params.in_turn.Goals as goal

pub returns-then-not-right : goal.returns-then-not-right
returns-then-not-right c =
    param_failed c.loop-p.seen c.comes.new.seen c.loop-p.last c.args.params.now c.loop-p.p-index c.p-item.result
    c.in_ok-right.right
    c.loop-p-test.true c.p-item.is c.loop-p.invariant c.in_ok-right.ensures c.if-not-right.true

pub loop-p-preserved : goal.loop-p-preserved
loop-p-preserved c =
    subst (λ last. Left c.comes.new.seen last (c.loop-p.p-index + 1) c.args.params.now) (sym c.later-last.ensures)
    (param_came c.loop-p.seen c.comes.new.seen c.loop-p.last c.args.params.now c.loop-p.p-index c.p-item.result
    c.in_ok-right.right
    c.loop-p-test.true c.p-item.is c.loop-p.invariant c.in_ok-right.ensures c.if-not-right.false)

pub returns : goal.returns
returns c = params_end c.loop-p.seen c.loop-p.last c.args.params.now c.loop-p.p-index c.loop-p-test.false
    c.loop-p.invariant
