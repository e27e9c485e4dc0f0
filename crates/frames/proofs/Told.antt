-- The offsets of ranges that are pushed part by part.
use Rattle.std.proofs.Common.{◌≡◌, ◌∙◌, List, [], ◌∷◌, ◌++◌, refl, sym, ap, append_assoc}
use Rattle.std.specs.Prelude.{ℤ}
use Rattle.pcode_model.specs.declared.listing.Varnode.{Varnode}
use Rattle.pcode_model.specs.declared.listing.Listing.{Listing}
use Rattle.frame_known.specs.declared.slots.Slots.{Slots}
use Rattle.frame_known.specs.Rows.{Row, offset_of}
use Rattle.frames.specs.Walk.{signed_in, signed_of}

-- Those of two lists are those of the one and then those of the other.
pub signed_of_both : (l : Listing) (s : Slots) (row : Row) (vs ws : List Varnode)
    → signed_of l s row (vs ++ ws) ≡ signed_of l s row vs ++ signed_of l s row ws
signed_of_both l s row [] ws = refl
signed_of_both l s row (v ∷ vs) ws =
    let here : List ℤ = signed_in l (offset_of s row v) in
    ap (λ (xs : List ℤ). here ++ xs) (signed_of_both l s row vs ws)
    ∙ sym (append_assoc here (signed_of l s row vs) (signed_of l s row ws))
