use Rattle.std.proofs.Common.{◌≤◌, ◌∙◌, ◌+◌, ℕ, Option, ap, sym, arith}
use Rattle.run_world.specs.Maps.{at}
use Rattle.pcode_operands.specs.Calls.{is_held}
use Rattle.pcode_operands.proofs.Calling.{forgets_absent, forgets_all}
use Rattle.pcode_operands.proofs.calls.forget.Goals as goal

pub loop-next-preserved : goal.loop-next-preserved
loop-next-preserved c =
    let q = c.args in
    let e = c.pass-last.ensures.left (at q.local.now) c.loop-next.invariant in
    let far : c.pass-last.result + 1 ≤ c.in-Some.next = omega (arith, c.in-Some.ensures.0) in
    e
    ∙ forgets_absent (is_held q.keep.now q.stack) q.space (at q.local.now) (c.pass-last.result + 1) c.in-Some.next
    far (λ o a b. sym (ap (λ (f : ℕ → ℕ → Option ℕ). f q.space o) e) ∙ c.in-Some.ensures.1 o (omega (arith, a)) b)

pub returns-in-None : goal.returns-in-None
returns-in-None c =
    let q = c.args in
    let e = c.pass-last.ensures.left (at q.local.now) c.loop-next.invariant in
    e
    ∙ forgets_all (is_held q.keep.now q.stack) q.space (at q.local.now) (c.pass-last.result + 1)
    (λ o a. sym (ap (λ (f : ℕ → ℕ → Option ℕ). f q.space o) e) ∙ c.in-None.ensures o (omega (arith, a)))
