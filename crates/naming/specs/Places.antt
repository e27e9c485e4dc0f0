-- Tables of what is listed. No definition of an order, but how the code looks numbers and addresses up.
use Rattle.std.specs.Prelude.{◌≡◌, ℕ, ◌==◌, Bool, List, Option, None}
use Rattle.std.specs.List.{slice_index_or}
use Rattle.std.specs.Ordering.{nat_cmp}
use Rattle.std.specs.BTreeSet.{BTreeSet, contains}
pub use Rattle.cmeaning.specs.Places.{place}
use Rattle.naming.specs.Listed.{is_listed}

abbrev pub is_same : ℕ → ℕ → Bool
is_same x y = y == x

-- what a table has for a number, and nothing behind its end
abbrev pub entry : List (Option ℕ) → ℕ → Option ℕ
entry table x = slice_index_or table x None

-- for each number the place where it is listed first
abbrev pub HasPlaces : List ℕ → (ℕ → Option ℕ) → Type 0
HasPlaces listed found = (x : ℕ) → found x ≡ place (is_same x) listed

-- a set has exactly what is listed
abbrev pub HasAll : List ℕ → BTreeSet ℕ → Type 0
HasAll listed set = (x : ℕ) → contains nat_cmp set x ≡ is_listed x listed
