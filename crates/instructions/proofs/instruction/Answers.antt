use Rattle.std.proofs.Common.{ℕ, ◌+◌, ◌-◌, ◌<◌, length, ◌/◌, ◌≡◌, List, sym, subst, ap, ◌∙◌, refl, arith, Some}
use Rattle.std.proofs.lemmas.Option.{slice_get_read}
use Rattle.std.specs.Prelude.{slice_get}
use Rattle.pcode_model.specs.declared.listing.Instruction.{Instruction}
use Rattle.pcode_model.specs.Places.{instruction_in}
use Rattle.pcode_model.specs.Flow.{AreApart}
use Rattle.instructions.proofs.Apart.{search_up, search_down, search_none, found_at}
use Rattle.instructions.proofs.instruction.Goals as goal

pub loop-low-preserved-then-here-address : goal.loop-low-preserved-then-here-address
loop-low-preserved-then-here-address c =
    let m : ℕ = c.loop-low.low + (c.loop-low.high - c.loop-low.low) / 2 in
    let P : List Instruction → Type 0 = λ xs. AreApart xs in
    let lt : m < c.loop-low.high = omega arith in
    let inside : m < length c.as_slice-code.result.now = omega (arith, c.loop-low.invariant.inside) in
    search_up c.as_slice-code.result.now c.args.address c.loop-low.low c.loop-low.high
    (subst P (sym c.as_slice-code.ensures) c.requires) c.loop-low.invariant m c.index-code-middle.result lt
    (slice_get_read c.as_slice-code.result.now (length c.as_slice-code.result.now) m c.index-code-middle.result
    refl inside c.index-code-middle.is)
    (omega (arith, ap (λ (y : Instruction). y.address) c.index-code-middle.is))

pub loop-low-preserved : goal.loop-low-preserved
loop-low-preserved c =
    let m : ℕ = c.loop-low.low + (c.loop-low.high - c.loop-low.low) / 2 in
    let P : List Instruction → Type 0 = λ xs. AreApart xs in
    let lt : m < c.loop-low.high = omega arith in
    let inside : m < length c.as_slice-code.result.now = omega (arith, c.loop-low.invariant.inside) in
    search_down c.as_slice-code.result.now c.args.address c.loop-low.low c.loop-low.high
    (subst P (sym c.as_slice-code.ensures) c.requires) c.loop-low.invariant m c.index-code-middle.result
    (omega arith) lt
    (slice_get_read c.as_slice-code.result.now (length c.as_slice-code.result.now) m c.index-code-middle.result
    refl inside c.index-code-middle.is)
    (omega (arith, ap (λ (y : Instruction). y.address) c.index-code-middle.is))

pub returns-else-address-here : goal.returns-else-address-here
returns-else-address-here c =
    let m : ℕ = c.loop-low.low + (c.loop-low.high - c.loop-low.low) / 2 in
    let P : List Instruction → Type 0 = λ xs. AreApart xs in
    let x = c.index-code-middle-else-address-here.result in
    let inside : m < length c.as_slice-code.result.now = omega (arith, c.loop-low.invariant.inside) in
    let e : slice_get c.as_slice-code.result.now m ≡ Some x =
    slice_get_read c.as_slice-code.result.now (length c.as_slice-code.result.now) m x refl inside
    c.index-code-middle-else-address-here.is in
    let f : slice_get c.as_slice-code.result.now m ≡ Some c.index-code-middle.result =
    slice_get_read c.as_slice-code.result.now (length c.as_slice-code.result.now) m c.index-code-middle.result
    refl inside c.index-code-middle.is in
    let g : x ≡ c.index-code-middle.result = some_same x c.index-code-middle.result (sym e ∙ f) in
    let here : x.address ≡ c.args.address =
    ap (λ (y : Instruction). y.address) g
    ∙ (omega (arith, ap (λ (y : Instruction). y.address) c.index-code-middle.is)) in
    sym (ap (λ (xs : List Instruction). instruction_in xs c.args.address) (sym c.as_slice-code.ensures)
    ∙ (ap (λ n. instruction_in c.as_slice-code.result.now n) (sym here)
    ∙ found_at c.as_slice-code.result.now (subst P (sym c.as_slice-code.ensures) c.requires) m x e)) where
      some_same : (y z : Instruction) → Some y ≡ Some z → y ≡ z
      some_same y z h = cc

pub returns : goal.returns
returns c =
    sym (ap (λ (xs : List Instruction). instruction_in xs c.args.address) (sym c.as_slice-code.ensures)
    ∙ search_none c.as_slice-code.result.now c.args.address c.loop-low.low c.loop-low.high c.loop-low.invariant
    (omega arith))
