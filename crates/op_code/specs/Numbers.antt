-- The table of the variables by where their ranges begin. No part of what an op means, but how the code looks variables
-- up: what it finds at a key is the place that pieces_at of Cover.antt asks for.
use Rattle.std.specs.Prelude.{◌≡◌, ℕ, List}
use Rattle.std.specs.declared.cmp.Ordering.{Ordering}
use Rattle.std.specs.Ordering.{nat_cmp, ordering_then}
use Rattle.std.specs.BTreeMap.{BTreeMap, get}
use Rattle.pcode_model.specs.declared.listing.Varnode.{Varnode}
use Rattle.cmeaning.specs.Places.{place}
use Rattle.op_code.specs.Cover.{begins}

-- where a range begins, as a key: its space and its offset
abbrev pub key_of : Varnode → ℕ × ℕ
key_of v = (v.space, v.offset)

abbrev pub key_cmp : ℕ × ℕ → ℕ × ℕ → Ordering
key_cmp a b = ordering_then (nat_cmp a.0 b.0) (nat_cmp a.1 b.1)

-- the first variable whose range begins at each key
abbrev pub HasNumbers : List Varnode → BTreeMap (ℕ × ℕ) ℕ → Type 0
HasNumbers ranges numbers = (key : ℕ × ℕ) → get key_cmp numbers key ≡ place (begins key.0 key.1) ranges
