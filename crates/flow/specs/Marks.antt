-- What the marking of block starts does.
use Rattle.std.specs.Prelude.{◌≡◌, ℕ, ◌<◌, Bool, true, List, length, ◌⊎◌, []}
use Rattle.pcode_model.specs.declared.listing.Place.{Place}
use Rattle.pcode_model.specs.declared.listing.Listing.{Listing}
use Rattle.pcode_model.specs.Flow.{IsIn, LeadsTo, is_branch, turn_at}
use Rattle.flow.specs.Slots.{at, Marked}

-- these are marked now, and nothing else that wasn't
pub record Marks (seen : List Bool) (next : List ℕ) (seen' : List Bool) : Type 0 where
  pub long : length seen' ≡ length seen
  pub keeps : (n : ℕ) → Marked seen n → Marked seen' n
  pub all : (n : ℕ) → IsIn n next → Marked seen' n
  pub fresh : (n : ℕ) → Marked seen' n → Marked seen n ⊎ IsIn n next

-- the same with the places that a branch leads to
pub record MarksBranch (l : Listing) (ps : List Place) (p : Place) (seen seen' : List Bool) : Type 0 where
  pub long : length seen' ≡ length seen
  pub keeps : (n : ℕ) → Marked seen n → Marked seen' n
  pub all : (n : ℕ) → n < length ps → is_branch (turn_at l p) ≡ true → LeadsTo l [] p (at ps n) → Marked seen' n
  pub fresh : (n : ℕ) → Marked seen' n → Marked seen n ⊎ ((is_branch (turn_at l p) ≡ true) × LeadsTo l [] p (at ps n))
