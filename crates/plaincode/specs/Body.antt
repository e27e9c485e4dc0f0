-- The ops of a block's places, one behind another, without the way out. This project's own.
use Rattle.std.specs.Prelude.{ℕ, ◌+◌, List, [], ◌∷◌, length}
use Rattle.pcode_model.specs.declared.listing.Varnode.{Varnode}
use Rattle.pcode_model.specs.declared.listing.Place.{Place}
use Rattle.pcode_model.specs.declared.listing.Listing.{Listing}
use Rattle.op_code.specs.Made.{Made, Own, followed, nothing}
use Rattle.op_code.specs.Lowered.{place_made}

-- what stands for the ops of these places
abbrev pub body_made : Listing → (Place → Own) → List Varnode → ℕ → List Place → Made
body_made l own ranges next [] = nothing
body_made l own ranges next (p ∷ ps) = followed (place_made l own ranges next p)
    (body_made l own ranges (next + length (place_made l own ranges next p).locals) ps)
