-- What stands at a place is an op of the code, which obeys the rules: its output lies within its space.
use Rattle.std.proofs.Common.{◌≡◌, ◌+◌, ◌≤◌, Bool, true, false, Some, None, refl, sym, ap, ◌∙◌, inl, inr, arith}
use Rattle.std.specs.Prelude.{not, ◌&&◌, ◌==◌}
use Rattle.std.proofs.lemmas.Bool.Decides.{nat_tests}
use Rattle.pcode_model.specs.declared.listing.Op.{Op}
use Rattle.pcode_model.specs.declared.listing.Place.{Place}
use Rattle.pcode_model.specs.declared.listing.Varnode.{Varnode}
use Rattle.pcode_model.specs.declared.listing.Instruction.{Instruction}
use Rattle.pcode_model.specs.declared.listing.Listing.{Listing}
use Rattle.pcode_model.specs.declared.rules.OpWhy.TheVariants.{BadSpace, OutOfSpace}
use Rattle.pcode_model.specs.Places.{Does, standing}
use Rattle.pcode_model.specs.Ranges.{leaves}
use Rattle.pcode_model.specs.Rules.{breaks, first_bad, inputs_stand, leaves_space, output_leaves, output_is_constant, destination_leaves, any_leaves, input_ranges}
use Rattle.pcode_model.specs.Spaces.{size_of, or}
use Rattle.pcode_laws.proofs.Rules.{breaks_none, neither}
use Rattle.instructions.proofs.Standing.{stands_in}

both : (a b : Bool) → not (a && b) ≡ false → (a ≡ true) × (b ≡ true)
both true true h = (refl, refl)
both true false h = absurd (cc)
both false b h = absurd (cc)

isnt : (a : Bool) → not a ≡ true → a ≡ false
isnt true h = absurd (cc)
isnt false h = refl

not_left : (a b : Bool) → a ≡ false → (not a && b) ≡ false → b ≡ false
not_left true b e h = absurd (cc)
not_left false b e h = h

-- the output of an op in the code lies within its space
pub output_inside : (l : Listing)
    → first_bad l ≡ None
    → (p : Place) (i : Instruction) (op : Op)
    → standing l p ≡ Does i op
    → (v : Varnode)
    → op.out ≡ Some v
    → v.offset + v.size ≤ size_of l v.space
output_inside l good p i op is v e =
    let s = stands_in l p i op is in
    let spaces : breaks l op BadSpace ≡ false =
    breaks_none l good i s.code_has op s.ops_have BadSpace (inr (inr (inr (inr (inl refl))))) in
    let out : breaks l op OutOfSpace ≡ false =
    breaks_none l good i s.code_has op s.ops_have OutOfSpace (inr (inr (inr (inr (inr (inr (inl refl))))))) in
    let constant : output_is_constant op.out ≡ false =
    isnt (output_is_constant op.out)
    (both (not (output_is_constant op.out)) (inputs_stand l op.code op.inputs) spaces).0 in
    let other : (v.space == 0) ≡ false = ap output_is_constant (sym e) ∙ constant in
    let past : output_leaves l op.out ≡ false =
    (neither (any_leaves l (input_ranges op.code op.inputs)) (output_leaves l op.out)
    (neither (destination_leaves l op.code op.inputs)
    (or (any_leaves l (input_ranges op.code op.inputs)) (output_leaves l op.out)) out).1).1 in
    let here : leaves_space l v ≡ false = ap (output_leaves l) (sym e) ∙ past in
    let stays : leaves l.spaces v.space v.offset v.size ≡ false =
    not_left (v.space == 0) (leaves l.spaces v.space v.offset v.size) other here in
    grind (arith, nat_tests)
