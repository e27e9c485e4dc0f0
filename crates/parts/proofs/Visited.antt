-- Visits, one list of variables behind another.
use Rattle.std.proofs.Common.{◌≡◌, ℕ, List, [], ◌∷◌, ◌++◌, refl}
use Rattle.parts.specs.Visits.{visited}

-- Visits of two lists in a row.
pub visited_append : {A : Type 0} (visit : A → ℕ → A) (a : A) (xs ys : List ℕ)
    → visited visit a (xs ++ ys) ≡ visited visit (visited visit a xs) ys
visited_append visit a [] ys = refl
visited_append visit a (x ∷ xs) ys = visited_append visit (visit a x) xs ys
