-- The table of places, filled from the last number to the first.
use Rattle.std.proofs.Common.{◌≡◌, ℕ, zero, suc, ◌+◌, List, drop}
use Rattle.ssa_text.specs.Text.{place_at, place_in}

-- a place in a list that stands behind so many numbers
abbrev pub behind : ℕ → ℕ → ℕ
behind k zero = zero
behind k (suc n) = suc (k + n)

-- what the table has once the numbers from here on are noted
abbrev pub Notes : List ℕ → List ℕ → ℕ → Type 0
Notes table numbers left = (x : ℕ) → place_at table x ≡ behind left (place_in x (drop left numbers))
