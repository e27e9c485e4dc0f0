-- Arms that stand by the least value of each. This project's own.
use Rattle.std.specs.Prelude.{◌≡◌, ◌<◌, ◌≤◌, ℕ, true, List, [], ◌∷◌}
use Rattle.std.specs.List.{AllByRecursion}
use Rattle.cmeaning.specs.declared.tree.Arm.{Arm as Branch}
use Rattle.cmeaning.specs.Valid.{is_in}

-- each value is below those behind it
abbrev pub AreRising : List ℕ → Type 0
AreRising [] = Unit {0}
AreRising (x ∷ values) = AllByRecursion (λ y. x < y) values × AreRising values

abbrev pub IsLeast : ℕ → List ℕ → Type 0
IsLeast x values = (is_in x values ≡ true) × AllByRecursion (λ y. x ≤ y) values

-- by their least values
abbrev pub IsBefore : Branch → Branch → Type 0
IsBefore a b = (x y : ℕ) → IsLeast x a.cases → IsLeast y b.cases → x < y

abbrev pub StandByLeast : List Branch → Type 0
StandByLeast [] = Unit {0}
StandByLeast (a ∷ rest) = AllByRecursion (IsBefore a) rest × StandByLeast rest

-- within: the values of each arm rise.
-- by_least: the arms stand by the least value of each.
pub record ArmsRise (arms : List Branch) : Type 0 where
  pub within : AllByRecursion (λ (a : Branch). AreRising a.cases) arms
  pub by_least : StandByLeast arms
