-- What rows at the beginnings of blocks say of all places. This project's own.
use Rattle.std.specs.Prelude.{◌≡◌, ℕ, ◌<◌, ◌↔◌, ◌⊎◌, true, List, [], ◌∷◌, length, slice_get, Option, Some}
use Rattle.pcode_model.specs.declared.listing.Place.{Place}
use Rattle.pcode_model.specs.declared.listing.Varnode.{Varnode}
use Rattle.pcode_model.specs.declared.listing.Listing.{Listing}
use Rattle.pcode_model.specs.declared.flow.Block.{Block}
use Rattle.pcode_model.specs.Places.{standing}
use Rattle.frame_facts.specs.Facts.{Fact}
use Rattle.frame_known.specs.declared.slots.Slots.{Slots}
use Rattle.frame_known.specs.Slots.{AreSlots}
use Rattle.frame_known.specs.Rows.{IsRow, Row, knows, over_row}
use Rattle.frame_known.specs.declared.known.Known.{Known}

-- The place is one of these that follow one another, with this row before it where the first one has that row before it.
abbrev pub Before : Listing → Slots → Row → List Place → Place → Row → Type 0
Before l s row [] p r = ⊥
Before l s row (q ∷ ps) p r = ((p ≡ q) × (r ≡ row)) ⊎ Before l s (over_row l s row (standing l q)) ps p r

-- The row knows just the facts before a place.
abbrev pub IsFactRow : Listing → Slots → Place → Row → Type 0
IsFactRow l s p r = (v : Varnode) (c : ℕ) → Fact l [] p v c ↔ (knows s r v c ≡ true)

-- A row for each block. What it knows, and what follows of it op by op, are the facts before each place of the block.
pub record AreRows (l : Listing) (blocks : List Block) (s : Slots) (rows : List (Option Row)) : Type 0 where
  pub slots : AreSlots l s
  pub long : length rows ≡ length blocks
  pub all : (n : ℕ) → n < length blocks → (row : Row) × (slice_get rows n ≡ Some (Some row))
  pub each : (n : ℕ) (row : Row) → slice_get rows n ≡ Some (Some row) → IsRow s row
  pub facts : (n : ℕ) (b : Block) (row : Row) (p : Place) (r : Row)
      → slice_get blocks n ≡ Some b
      → slice_get rows n ≡ Some (Some row)
      → Before l s row b.places p r
      → IsFactRow l s p r

abbrev pub AreKnown : Listing → List Block → Known → Type 0
AreKnown l blocks k = AreRows l blocks k.slots k.rows.items
