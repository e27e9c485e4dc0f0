-- Rows at the entry, along a block, and where edges meet. This project's own.
use Rattle.std.specs.Prelude.{◌≡◌, ℕ, ◌+◌, ◌<◌, ◌==◌, not, Bool, true, false, if◌then◌else◌, List, [], ◌∷◌, map, Option, Some, None}
use Rattle.pcode_model.specs.declared.listing.Place.{Place}
use Rattle.pcode_model.specs.declared.listing.Listing.{Listing}
use Rattle.pcode_model.specs.Places.{standing}
use Rattle.frame_known.specs.declared.slots.Slots.{Slots}
use Rattle.frame_known.specs.Rows.{Row, is_at, over_row}

-- what is known after places that follow one another
abbrev pub along : Listing → Slots → Row → List Place → Row
along l s row [] = row
along l s row (p ∷ ps) = along l s (over_row l s row (standing l p)) ps

-- ---- at the entry

-- the stack pointer is known to hold its entry word, and no other range is known
abbrev pub first_entry : Listing → Slots → ℕ → Option ℕ
first_entry l s n = if is_at s.width l.stack n then Some 0 else None

abbrev pub first_entries : Listing → Slots → Row
first_entries l s = map (first_entry l s) s.keys.items

-- ---- where edges meet

abbrev pub both : Option ℕ → Option ℕ → Option ℕ
both None r = None
both (Some c) None = None
both (Some c) (Some d) = if c == d then Some c else None

-- the other doesn't know what the one knows
abbrev pub is_lost : Option ℕ → Option ℕ → Bool
is_lost None r = false
is_lost (Some c) None = true
is_lost (Some c) (Some d) = not (c == d)

-- what two rows know
abbrev pub common : Row → Row → Row
common [] other = []
common (r ∷ row) [] = []
common (r ∷ row) (t ∷ other) = both r t ∷ common row other

abbrev pub one_known : Option ℕ → ℕ
one_known None = 0
one_known (Some c) = 1

-- how many slots a row knows
abbrev pub count : Row → ℕ
count [] = 0
count (r ∷ row) = one_known r + count row

-- The row keeps what another one knows too, and is the same, or knows less.
pub record KeepsCommon (row other : Row) (less : Bool) (row' : Row) : Type 0 where
  pub is : row' ≡ common row other
  pub fewer : less ≡ true → count row' < count row
  pub same : less ≡ false → row' ≡ row
