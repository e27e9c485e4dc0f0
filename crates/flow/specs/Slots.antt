-- The places of a listing by their number, their slot.
use Rattle.std.specs.Prelude.{◌≡◌, ℕ, zero, suc, ◌<◌, ◌≤◌, Bool, true, false, List, [], ◌∷◌, ◌++◌, length, ◌↔◌, ◌⊎◌}
use Rattle.std.specs.List.{slice_index_or}
use Rattle.pcode_model.specs.declared.listing.Op.{Op}
use Rattle.pcode_model.specs.declared.listing.Instruction.{Instruction}
use Rattle.pcode_model.specs.declared.listing.Place.{Place}
use Rattle.pcode_model.specs.declared.listing.Listing.{Listing}
use Rattle.pcode_model.specs.declared.tables.TableAt.{TableAt}
use Rattle.pcode_model.specs.Places.{place}
use Rattle.pcode_model.specs.Flow.{IsIn, IsBefore, Rising, stands, Reached, BeginsBlock}

-- the place of a number
abbrev pub at : List Place → ℕ → Place
at ps s = slice_index_or ps s (place 0 0)

abbrev pub Marked : List Bool → ℕ → Type 0
Marked flags s = slice_index_or flags s false ≡ true

-- an instruction without ops has one place
abbrev pub slots_of : List Op → ℕ
slots_of [] = 1
slots_of (op ∷ ops) = length (op ∷ ops)

abbrev pub slots : Instruction → ℕ
slots i = slots_of i.ops

-- the places of the indices below n
abbrev pub indices : ℕ → ℕ → List Place
indices a zero = []
indices a (suc n) = indices a n ++ place a n ∷ []

-- all places of a listing, each once
pub record ArePlaces (l : Listing) (ps : List Place) : Type 0 where
  pub each : (p : Place) → IsIn p ps ↔ (stands l p ≡ true)
  pub rising : Rising ps

-- so many of the places come before p, and no other
pub record IsLowerBound (ps : List Place) (p : Place) (n : ℕ) : Type 0 where
  pub inside : n ≤ length ps
  pub below : (k : ℕ) → k < n → IsBefore (at ps k) p
  pub above : (k : ℕ) → n ≤ k → k < length ps → IsBefore p (at ps k) ⊎ (at ps k ≡ p)

-- a mark for each place: whether it is reached
pub record MarksReached (l : Listing) (t : List TableAt) (ps : List Place) (flags : List Bool) : Type 0 where
  pub long : length flags ≡ length ps
  pub each : (s : ℕ) → s < length ps → Marked flags s ↔ Reached l t (at ps s)
  pub all : (p : Place) → Reached l t p → IsIn p ps

-- a mark for each place: whether a block begins there
pub record MarksStarts (l : Listing) (t : List TableAt) (ps : List Place) (flags : List Bool) : Type 0 where
  pub long : length flags ≡ length ps
  pub each : (s : ℕ) → s < length ps → Marked flags s ↔ BeginsBlock l t (at ps s)

abbrev pub one_if : Bool → Place → List Place
one_if true p = p ∷ []
one_if false p = []

-- the places that are marked, of the first n
abbrev pub picked : List Bool → List Place → ℕ → List Place
picked flags ps zero = []
picked flags ps (suc n) = picked flags ps n ++ one_if (slice_index_or flags n false) (at ps n)
