-- Which value each variable has in each block, as far as it is known.
use Rattle.std.specs.Prelude.{◌≡◌, ℕ, ◌+◌, ◌*◌, ◌==◌, ◌&&◌, nat_lt, if◌then◌else◌, length, get_or, Option, Some, None}
use Rattle.std.specs.declared.cmp.Ordering.{Ordering}
use Rattle.std.specs.Ordering.{nat_cmp, ordering_then}
use Rattle.std.specs.BTreeMap.{get}
use Rattle.heritage.specs.declared.rows.Rows.{Rows}

abbrev pub pair_cmp : ℕ × ℕ → ℕ × ℕ → Ordering
pair_cmp a b = ordering_then (nat_cmp a.0 b.0) (nat_cmp a.1 b.1)

-- The value that a variable has in a block: the first variables have a place in each block, the others one where they
-- are known.
abbrev pub value_in : Rows → ℕ → ℕ → Option ℕ
value_in r block variable =
    if nat_lt variable r.low
    then get_or r.dense.items (block * r.low + variable) None
    else get pair_cmp r.sparse (block, variable)

-- the variable has the value in the block, and all else is as before
abbrev pub with_value : ℕ → ℕ → ℕ → (ℕ → ℕ → Option ℕ) → ℕ → ℕ → Option ℕ
with_value block variable value values b v =
    if b == block && v == variable then Some value else values b v

-- rows of so many blocks
pub record HasBlocks (blocks : ℕ) (r : Rows) : Type 0 where
  pub places : length r.dense.items ≡ blocks * r.low
