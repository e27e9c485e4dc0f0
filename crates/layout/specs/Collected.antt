-- How the arms of a switch are collected, case by case. No definition of the arms, but how the code makes them.
use Rattle.std.specs.Prelude.{◌≡◌, ℕ, zero, suc, ◌==◌, Bool, if◌then◌else◌, List, [], ◌∷◌, ◌++◌}
use Rattle.std.specs.Ordering.{nat_cmp}
use Rattle.std.specs.BTreeMap.{BTreeMap, get}
use Rattle.cmeaning.specs.declared.tree.Arm.{Arm as Branch}
use Rattle.cmeaning.specs.declared.tree.Stmt.TheVariants as S
use Rattle.cmeaning.specs.Places.{place}
use Rattle.blockcode.specs.declared.code.Arm.{Arm}
use Rattle.layout.specs.declared.branches.Led.{Led}

abbrev pub first_of : Arm → Led
first_of a = record { to = a.to; values = a.value ∷ [] }

abbrev pub with_one : Led → ℕ → Led
with_one x v = record { to = x.to; values = x.values ++ v ∷ [] }

-- one more value at a place
abbrev pub with_value : List Led → ℕ → ℕ → List Led
with_value [] n v = []
with_value (x ∷ xs) zero v = with_one x v ∷ xs
with_value (x ∷ xs) (suc n) v = x ∷ with_value xs n v

-- A case joins those that lead to its block, or is the first one.
abbrev pub with_case : List Led → Arm → List Led
with_case [] a = first_of a ∷ []
with_case (x ∷ xs) a = if x.to == a.to then with_one x a.value ∷ xs else x ∷ with_case xs a

abbrev pub with_cases : List Led → List Arm → List Led
with_cases xs [] = xs
with_cases xs (a ∷ rest) = with_cases (with_case xs a) rest

abbrev pub branch_arm : Led → Branch
branch_arm x = record { cases = x.values; body = S.Goto x.to ∷ [] }

abbrev pub is_to : ℕ → Led → Bool
is_to b x = x.to == b

-- where each block's values stand
abbrev pub HasPlaces : List Led → BTreeMap ℕ ℕ → Type 0
HasPlaces listed places = (b : ℕ) → get nat_cmp places b ≡ place (is_to b) listed
