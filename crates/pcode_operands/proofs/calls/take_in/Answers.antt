use Rattle.std.proofs.Common.{◌≡◌, ◌∙◌, ℕ, List, Option, None, ap, sym, take, length, arith}
use Rattle.std.proofs.Math.Seq.{take-length}
use Rattle.run_world.specs.Meaning.{with_offsets}
use Rattle.pcode_operands.specs.Calls.{is_held, mixed}
use Rattle.pcode_operands.proofs.Calling.{offsets_more}
use Rattle.pcode_operands.proofs.calls.take_in.Goals as goal

pub loop-b-preserved : goal.loop-b-preserved
loop-b-preserved c = λ g e.
    let q = c.args in
    c.in_ok-take_byte.ensures g (with_offsets (take c.loop-b.b-index q.bytes.now) (λ o. None)) (c.loop-b.invariant g e)
    ∙ ap (λ (f : ℕ → Option ℕ). mixed (is_held q.keep.now q.stack) q.space f g)
    (sym (offsets_more q.bytes.now c.loop-b.b-index (record { space = 0; offset = 0; value = 0 }) (λ o. None)
    c.loop-b-test.true))

pub returns : goal.returns
returns c = λ g e.
    let q = c.args in
    let all : c.loop-b.b-index ≡ length q.bytes.now = omega (arith, c.loop-b-test.false, c.loop-b.auto.b-index-end) in
    c.loop-b.invariant g e
    ∙ ap (λ (xs : List _). mixed (is_held q.keep.now q.stack) q.space (with_offsets xs (λ o. None)) g)
    (ap (λ (k : ℕ). take k q.bytes.now) all ∙ take-length q.bytes.now)
