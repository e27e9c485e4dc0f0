-- The accesses of frame variables by place and number. No part of what an op means, but how the code looks them up.
use Rattle.std.specs.Prelude.{◌≡◌, ℕ, ◌<◌, ◌≤◌, ◌^◌, length}
use Rattle.std.specs.declared.cmp.Ordering.{Ordering}
use Rattle.std.specs.Ordering.{nat_cmp, ordering_then}
use Rattle.std.specs.BTreeMap.{BTreeMap, get}
use Rattle.pcode_model.specs.declared.listing.Listing.{Listing}
use Rattle.pcode_model.specs.declared.listing.Place.{Place}
use Rattle.range_words.specs.Own.{stack_size}
use Rattle.op_code.specs.declared.frame.FrameTable.{FrameTable}
use Rattle.op_code.specs.declared.frame.OwnAccesses.{OwnAccesses}
use Rattle.op_code.specs.Made.{Own}

abbrev pub Key : Type 0
Key = ℕ × (ℕ × ℕ)

-- the address and the index of a place, and a number
abbrev pub access_key : Place → ℕ → Key
access_key p n = (p.address, (p.index, n))

abbrev pub pair_cmp : ℕ × ℕ → ℕ × ℕ → Ordering
pair_cmp a b = ordering_then (nat_cmp a.0 b.0) (nat_cmp a.1 b.1)

abbrev pub access_cmp : Key → Key → Ordering
access_cmp a b = ordering_then (nat_cmp a.0 b.0) (pair_cmp a.1 b.1)

-- what a table of offsets has for the accesses of places
abbrev pub offset_at : BTreeMap Key ℕ → Place → Own
offset_at offsets p n = get access_cmp offsets (access_key p n)

-- the own accesses of places, by their table
abbrev pub own_at : FrameTable → Place → Own
own_at t = offset_at t.offsets

abbrev pub own_of : OwnAccesses → Own
own_of a = own_at a.table.now a.place

-- A range of the frame can be named: the number of the first ram space has 8 bits, and its offsets 64.
pub record HasFrameRanges (l : Listing) : Type 0 where
  pub spaces : length l.spaces < 256
  pub offsets : stack_size l ≤ 2 ^ 64
