use Rattle.std.proofs.Common.{◌≤◌, ◌∙◌, ◌+◌, ap, None, arith}
use Rattle.pcode_model.specs.Spaces.{put_in}
use Rattle.pcode_operands.specs.Calls.{is_held}
use Rattle.pcode_operands.proofs.Calling.{forgets_held, forgets_one}
use Rattle.pcode_operands.proofs.calls.pass.Goals as goal

pub returns-in-Some-clause-left : goal.returns-in-Some-clause-left
returns-in-Some-clause-left c = λ g e.
    let q = c.args in
    let far : q.here ≤ c.in-Some.last + 1 = omega (arith, c.in-Some.ensures.0) in
    e
    ∙ forgets_held (is_held q.keep.now q.stack) q.space g q.here (c.in-Some.last + 1) far
    (λ o a b. c.in-Some.ensures.1 o a (omega (arith, b)))

pub returns-in-None-clause-left : goal.returns-in-None-clause-left
returns-in-None-clause-left c = λ g e.
    let q = c.args in
    c.remove.ensures
    ∙ ap (put_in q.space q.here None) e
    ∙ forgets_one (is_held q.keep.now q.stack) q.space g q.here c.in-None.ensures
