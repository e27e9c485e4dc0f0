-- What passing a block does. This project's own.
use Rattle.std.specs.Prelude.{◌≡◌, ℕ, ◌==◌, ◌&&◌, Bool, false, List, [], ◌∷◌, length, Option, Some, None}
use Rattle.pcode_model.specs.declared.listing.Place.{Place}
use Rattle.pcode_model.specs.declared.listing.Listing.{Listing}
use Rattle.pcode_model.specs.declared.flow.Block.{Block}
use Rattle.pcode_model.specs.declared.flow.Exit.{Exit}
use Rattle.frame_known.specs.declared.slots.Slots.{Slots}
use Rattle.frame_known.specs.Rows.{Row}
use Rattle.frame_known.specs.Meeting.{along}
use Rattle.frame_known.specs.Entering.{EnteredAll, nexts, row_at}

-- ---- the block where the function begins

abbrev pub is_place : Place → Place → Bool
is_place q p = q.address == p.address && q.index == p.index

abbrev pub begins_in : List Place → Place → Bool
begins_in [] p = false
begins_in (q ∷ ps) p = is_place q p

-- ---- a block that is passed

-- what is known at the end of a block, where there is a row at its beginning
abbrev pub end_in : Listing → Slots → Option Row → List Place → Option Row
end_in l s None ps = None
end_in l s (Some row) ps = Some (along l s row ps)

abbrev pub PassedFrom : Option Row → Exit → List (Option Row) → List Bool → List (Option Row) → List Bool → Type 0
PassedFrom None e rows waits rows' waits' = (rows' ≡ rows) × (waits' ≡ waits)
PassedFrom (Some out) e rows waits rows' waits' = EnteredAll (length out) out rows waits (nexts e) rows' waits'

-- what is known at the end of the block of a number was brought to the blocks behind it
abbrev pub Passed : Listing → Slots → Block → ℕ → List (Option Row) → List Bool → List (Option Row) → List Bool → Type 0
Passed l s b n rows waits rows' waits' =
    PassedFrom (end_in l s (row_at rows n) b.places) b.exit rows waits rows' waits'
