use Rattle.std.proofs.Common.{◌≡◌, ◌∙◌, Some, None, map, subst, sym, ap, refl}
use Rattle.pcode_model.specs.declared.listing.Op.{Op}
use Rattle.pcode_model.specs.declared.listing.Listing.{Listing}
use Rattle.pcode_model.specs.Places.{Standing, Nothing, Passes, Does, standing}
use Rattle.instructions.specs.Standing.{op_of}
use Rattle.frame_known.specs.declared.slots.Slots.{Slots}
use Rattle.frame_known.specs.Rows.{IsRow, Row, after, knows, over_row}
use Rattle.frame_known.specs.Steps.{PassesOn}
use Rattle.frame_known.proofs.Below.{over_fine}
use Rattle.frame_known.proofs.Meaning.{over_is}
use Rattle.frame_known.proofs.rows.over.Goals as goal

done : (l : Listing) (s : Slots) (row row' : Row) (here : Standing) (op : Op)
    → Some op ≡ op_of here
    → row' ≡ map (after l s row op) s.keys.items
    → row' ≡ over_row l s row here
done l s row row' Nothing op e h = absurd (cc)
done l s row row' (Passes i) op e h = absurd (cc)
done l s row row' (Does i other) op e h =
    let same : op ≡ other = cc in
    h ∙ ap (λ x. map (after l s row x) s.keys.items) same

passed : (l : Listing) (s : Slots) (row : Row) (here : Standing) → None ≡ op_of here → row ≡ over_row l s row here
passed l s row Nothing e = refl
passed l s row (Passes i) e = refl
passed l s row (Does i op) e = absurd (cc)

pub returns-in-Some : goal.returns-in-Some
returns-in-Some c =
    let l = c.args.listing.now in
    let s = c.args.slots.now in
    let here = standing l c.args.place in
    let e = done l s c.args.row.now c.over_op.new.row here c.in-Some.op.now (c.in-Some.ensures {u = tt}) c.over_op.ensures in
    let fine = over_fine l s c.requires.slots.some c.args.row.now c.requires.row here in
    let P : Row → Type 0 = λ r. IsRow s r in
    let Q : Row → Type 0 = λ r. PassesOn l (knows s c.args.row.now) here (knows s r) in
    record {
      value = e;
      row = subst P (sym e) fine;
      meaning =
          subst Q (sym e) (λ some v d.
          over_is l c.requires.read s c.requires.slots c.args.row.now c.requires.row c.args.place here v d fine refl some);
    }

pub returns-in_default : goal.returns-in_default
returns-in_default c =
    let l = c.args.listing.now in
    let s = c.args.slots.now in
    let here = standing l c.args.place in
    let e = passed l s c.args.row.now here (c.in_default.ensures {u = tt}) in
    let fine = over_fine l s c.requires.slots.some c.args.row.now c.requires.row here in
    let P : Row → Type 0 = λ r. IsRow s r in
    let Q : Row → Type 0 = λ r. PassesOn l (knows s c.args.row.now) here (knows s r) in
    record {
      value = e;
      row = c.requires.row;
      meaning =
          subst Q (sym e) (λ some v d.
          over_is l c.requires.read s c.requires.slots c.args.row.now c.requires.row c.args.place here v d fine refl some);
    }
