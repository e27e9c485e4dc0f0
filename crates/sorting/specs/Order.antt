-- Items in the order of their keys.
use Rattle.std.specs.Prelude.{ℕ, nat_lt, if◌then◌else◌, List, [], ◌∷◌}

module _ {X : Type 0} (key : X → ℕ) where
  -- before the first item whose key isn't less
  abbrev pub placed_by : X → List X → List X
  placed_by x [] = x ∷ []
  placed_by x (y ∷ ys) = if nat_lt (key y) (key x) then y ∷ placed_by x ys else x ∷ y ∷ ys

  -- by rising keys; of two of one key the first one stays first
  abbrev pub by_key : List X → List X
  by_key [] = []
  by_key (x ∷ xs) = placed_by x (by_key xs)
