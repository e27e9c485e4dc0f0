-- A list of numbers by first appearance.
use Rattle.std.specs.Prelude.{ℕ, suc, ◌==◌, Bool, false, if◌then◌else◌, List, [], ◌∷◌, ◌++◌}
use Rattle.pcode_model.specs.Spaces.{or}

abbrev pub is_listed : ℕ → List ℕ → Bool
is_listed x [] = false
is_listed x (y ∷ ys) = or (y == x) (is_listed x ys)

abbrev pub with_one : List ℕ → ℕ → List ℕ
with_one xs x = if is_listed x xs then xs else xs ++ x ∷ []

-- How many are listed before x. What isn't listed has a place too, behind all that is, so that no two numbers share one.
abbrev pub place_in : List ℕ → ℕ → ℕ
place_in [] x = x
place_in (y ∷ ys) x = if y == x then 0 else suc (place_in ys x)
