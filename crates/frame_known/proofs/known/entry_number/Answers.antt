use Rattle.std.proofs.Common.{◌≡◌, ◌∙◌, ◌≢◌, length, refl, true, false, Some, ap, sym, arith, ⊎_elim}
use Rattle.std.specs.Prelude.{slice_get}
use Rattle.std.proofs.lemmas.Bool.{cases_eq}
use Rattle.std.proofs.lemmas.Option.{slice_get_read, slice_get_within}
use Rattle.pcode_model.specs.declared.flow.Block.{Block}
use Rattle.pcode_model.specs.Step.{first_place}
use Rattle.frame_known.specs.Passing.{begins_in}
use Rattle.frame_known.proofs.Passing.{entry_at, entry_some}
use Rattle.frame_known.proofs.known.entry_number.Goals as goal

pub loop-number-preserved : goal.loop-number-preserved
loop-number-preserved c k b lt get =
    let n = c.loop-number.number in
    let x = c.index-blocks-number.result in
    let here : slice_get c.args.blocks.now n ≡ Some x =
    slice_get_read c.args.blocks.now (length c.args.blocks.now) n x refl c.loop-number-test.true c.index-blocks-number.is in
    ⊎_elim
    (λ (e : k ≡ n).
    let same : b ≡ x = let f : Some b ≡ Some x = sym get ∙ ap (slice_get c.args.blocks.now) e ∙ here in cc in
    let no : begins_in x.places (first_place c.args.listing.now) ≡ false = cc in
    ap (λ (y : Block). begins_in y.places (first_place c.args.listing.now)) same ∙ no)
    (λ (ne : k ≢ n). c.loop-number.invariant k b (omega (arith, lt, ne)) get)
    (cases_eq k n)

pub returns-then-begins : goal.returns-then-begins
returns-then-begins c =
    let n = c.loop-number.number in
    let x = c.index-blocks-number.result in
    let here : slice_get c.args.blocks.now n ≡ Some x =
    slice_get_read c.args.blocks.now (length c.args.blocks.now) n x refl c.loop-number-test.true c.index-blocks-number.is in
    let yes : begins_in x.places (first_place c.args.listing.now) ≡ true = cc in
    entry_at c.args.listing.now c.args.blocks.now c.requires n x (first_place c.args.listing.now) here yes

pub returns : goal.returns
returns c =
    absurd (entry_some c.args.listing.now c.args.blocks.now c.requires
    (λ n b get. c.loop-number.invariant n b
    (let lt = slice_get_within c.args.blocks.now n b get in omega (arith, lt)) get))
