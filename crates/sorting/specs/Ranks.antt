-- Numbers with the ranks that they are sorted by.
use Rattle.std.specs.Prelude.{◌≡◌, ℕ, List, map}
use Rattle.std.specs.List.{AllByRecursion}
use Rattle.sorting.specs.declared.ranked.Ranked.{Ranked}

abbrev pub numbers_of : List Ranked → List ℕ
numbers_of = map (λ (r : Ranked). r.number)

-- each number stands with its own rank
abbrev pub HaveRanks : (ℕ → ℕ) → List Ranked → Type 0
HaveRanks rank = AllByRecursion (λ (r : Ranked). r.rank ≡ rank r.number)
