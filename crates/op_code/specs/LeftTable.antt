-- What calls leave, by the number of their prototype. No part of what a call means, but how the code looks it up.
use Rattle.std.specs.Prelude.{◌≡◌, ℕ, List, Option, Some, None, slice_get}
use Rattle.pcode_model.specs.declared.listing.Listing.{Listing}
use Rattle.pcode_model.specs.declared.listing.Varnode.{Varnode}
use Rattle.pcode_model.specs.Step.{proto_at}
use Rattle.op_code.specs.declared.left.Leftover.{Leftover}
use Rattle.op_code.specs.declared.left.LeftTable.{LeftTable}
use Rattle.op_code.specs.Left.{leftovers}

abbrev pub row_or : List Leftover → Option (List Leftover) → List Leftover
row_or other None = other
row_or other (Some row) = row

-- what a table has for the prototype of a number
abbrev pub left_at : LeftTable → ℕ → List Leftover
left_at t n = row_or t.other (slice_get t.rows n)

-- it has what a call of each prototype leaves in variables of these ranges
abbrev pub IsLeft : Listing → List Varnode → LeftTable → Type 0
IsLeft l ranges t = (n : ℕ) → left_at t n ≡ leftovers l (proto_at l n) ranges
