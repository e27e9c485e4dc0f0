-- What is known at a block's end is brought to the blocks behind it. This project's own.
use Rattle.std.specs.Prelude.{◌≡◌, ℕ, ◌+◌, ◌<◌, Bool, true, false, List, [], ◌∷◌, length, slice_set, Option, Some, None, ◌⊎◌}
use Rattle.std.specs.List.{slice_index_or, AllByRecursion}
use Rattle.pcode_model.specs.declared.flow.Exit.{Exit}
use Rattle.pcode_model.specs.declared.flow.Exit.TheVariants.{Return, Jump, Test, Switch, Stop}
use Rattle.frame_known.specs.Rows.{Row}
use Rattle.frame_known.specs.Meeting.{common, count}

-- the numbers of the blocks behind a block
abbrev pub nexts : Exit → List ℕ
nexts Return = []
nexts (Jump n) = n ∷ []
nexts (Test m n) = m ∷ n ∷ []
nexts (Switch table ns) = ns
nexts Stop = []

-- what a row becomes, where there is one, as another one is brought
abbrev pub brought : Option Row → Row → Row
brought None out = out
brought (Some row) out = common row out

abbrev pub row_at : List (Option Row) → ℕ → Option Row
row_at rows n = slice_index_or rows n None

abbrev pub waits_at : List Bool → ℕ → Bool
waits_at waits n = slice_index_or waits n false

-- how much a block's row of so many slots may still lose: one that wasn't made yet has more to lose than any
abbrev pub weight : ℕ → Option Row → ℕ
weight k None = k + 1
weight k (Some row) = count row

abbrev pub weights : ℕ → List (Option Row) → ℕ
weights k [] = 0
weights k (r ∷ rows) = weight k r + weights k rows

abbrev pub waiting : List Bool → ℕ
waiting [] = 0
waiting (true ∷ waits) = waiting waits + 1
waiting (false ∷ waits) = waiting waits

-- A row was brought to a block: it has the row that comes of it, and waits, or had that row before.
pub record Entered (k : ℕ) (rows : List (Option Row)) (waits : List Bool) (m : ℕ) (out : Row)
    (rows' : List (Option Row)) (waits' : List Bool) : Type 0 where
  pub rows_are : rows' ≡ slice_set rows m (Some (brought (row_at rows m) out))
  pub less :
      ((waits' ≡ slice_set waits m true) × (weight k (Some (brought (row_at rows m) out)) < weight k (row_at rows m)))
      ⊎ ((waits' ≡ waits) × (row_at rows m ≡ Some (brought (row_at rows m) out)))

-- the same for each of these blocks
abbrev pub EnteredAll : ℕ → Row → List (Option Row) → List Bool → List ℕ → List (Option Row) → List Bool → Type 0
EnteredAll k out rows waits [] rows' waits' = (rows' ≡ rows) × (waits' ≡ waits)
EnteredAll k out rows waits (m ∷ ms) rows' waits' =
    (between : List (Option Row))
    × ((some_wait : List Bool)
    × (Entered k rows waits m out between some_wait × EnteredAll k out between some_wait ms rows' waits'))

-- each row has so many entries
abbrev pub IsLong : ℕ → Option Row → Type 0
IsLong k None = Unit {0}
IsLong k (Some row) = length row ≡ k

abbrev pub AreLong : ℕ → List (Option Row) → Type 0
AreLong k rows = AllByRecursion (IsLong k) rows

abbrev pub AreInside : ℕ → List ℕ → Type 0
AreInside n ms = AllByRecursion (λ m. m < n) ms

-- The row is what comes of the old one as another one is brought; it is new or knows less, or is the same.
pub record Brought (old : Option Row) (out : Row) (fewer : Bool) (new : Option Row) : Type 0 where
  pub is : new ≡ Some (brought old out)
  pub less : fewer ≡ true → weight (length out) new < weight (length out) old
  pub same : fewer ≡ false → old ≡ new
