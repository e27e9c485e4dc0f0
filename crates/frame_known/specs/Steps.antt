-- What the steps over a row do, entry by entry.
use Rattle.std.specs.Prelude.{◌≡◌, ℕ, ◌<◌, ◌≤◌, ◌↔◌, true, if◌then◌else◌, length, Option, None}
use Rattle.std.specs.List.{slice_index_or}
use Rattle.pcode_model.specs.declared.listing.Varnode.{Varnode}
use Rattle.pcode_model.specs.declared.listing.Listing.{Listing}
use Rattle.pcode_model.specs.Places.{Standing, Nothing}
use Rattle.frame_facts.specs.Facts.{CanHold, Known, Over, shares}
use Rattle.frame_known.specs.declared.slots.Slots.{Slots}
use Rattle.frame_known.specs.Slots.{range_of}
use Rattle.frame_known.specs.Rows.{Row}

abbrev pub entry : Row → ℕ → Option ℕ
entry row k = slice_index_or row k None

-- What stands at a place makes of what is known before it just this known after it: what it passes on to ranges that can
-- hold it.
abbrev pub PassesOn : Listing → Known → Standing → Known → Type 0
PassesOn l k here k' =
    (here ≡ Nothing → ⊥) → (v : Varnode) (c : ℕ) → (k' v c ≡ true) ↔ (CanHold l v c × Over l k here v c)

-- the entries from one on below another one are forgotten
pub record Forgotten (low high : ℕ) (row row' : Row) : Type 0 where
  pub long : length row' ≡ length row
  pub gone : (k : ℕ) → low ≤ k → k < high → entry row' k ≡ None
  pub before : (k : ℕ) → k < low → entry row' k ≡ entry row k
  pub behind : (k : ℕ) → low ≤ k → high ≤ k → entry row' k ≡ entry row k

-- the entries of the slots that share a byte with a range are forgotten
pub record IsLeft (s : Slots) (out : Varnode) (row row' : Row) : Type 0 where
  pub long : length row' ≡ length row
  pub each : (k : ℕ)
      → k < length s.keys.items
      → entry row' k ≡ (if shares out (range_of s.width (slice_index_or s.keys.items k 0)) then None else entry row k)
