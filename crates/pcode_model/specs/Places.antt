-- Where ops stand and where they lead. After the P-Code Reference Manual, BRANCH and CBRANCH; the rule on the op count
-- and on instructions without ops is this project's own.
use Rattle.std.specs.Prelude.{ℕ, zero, suc, ◌+◌, ◌==◌, nat_lt, if◌then◌else◌, List, [], ◌∷◌, length, slice_get, Option, Some, None, ℤ, pos, negsuc, ◌+ℤ◌}
use Rattle.bits_core.specs.Value.{signed}
use Rattle.pcode_model.specs.declared.listing.Op.{Op}
use Rattle.pcode_model.specs.declared.listing.Instruction.{Instruction}
use Rattle.pcode_model.specs.declared.listing.Place.{Place}
use Rattle.pcode_model.specs.declared.listing.Varnode.{Varnode}
use Rattle.pcode_model.specs.declared.listing.Listing.{Listing}

abbrev pub place : ℕ → ℕ → Place
place a n = record { address = a; index = n }

abbrev pub instruction_in : List Instruction → ℕ → Option Instruction
instruction_in [] a = None
instruction_in (i ∷ rest) a = if i.address == a then Some i else instruction_in rest a

-- the instruction at an address
abbrev pub instruction_at : Listing → ℕ → Option Instruction
instruction_at l a = instruction_in l.code a

-- What stands at a place: no op, an instruction without ops, which is passed, or an op of an instruction.
pub data Standing : Type 0 where
  Nothing : Standing
  Passes : Instruction → Standing
  Does : Instruction → Op → Standing

abbrev pub op_in : Instruction → Option Op → Standing
op_in i None = Nothing
op_in i (Some op) = Does i op

abbrev pub standing_in : Instruction → List Op → ℕ → Standing
standing_in i [] zero = Passes i
standing_in i [] (suc n) = Nothing
standing_in i (op ∷ ops) n = op_in i (slice_get (op ∷ ops) n)

abbrev pub standing_of : Option Instruction → ℕ → Standing
standing_of None n = Nothing
standing_of (Some i) n = standing_in i i.ops n

abbrev pub standing : Listing → Place → Standing
standing l p = standing_of (instruction_at l p.address) p.index

-- index 0 of the instruction that follows
abbrev pub next_instruction : Instruction → Place
next_instruction i = place (i.address + i.length) 0

-- the next place after an index of an instruction
abbrev pub next_place : Instruction → ℕ → Place
next_place i n = if nat_lt (suc n) (length i.ops) then place i.address (suc n) else next_instruction i

abbrev pub index_place : Instruction → ℤ → Option Place
index_place i (pos m) = if m == length i.ops then Some (next_instruction i) else (if nat_lt m (length i.ops) then Some (place i.address m) else None)
index_place i (negsuc m) = None

-- a relative branch at an index by a count, signed at its own size: to that index of the instruction, or, where that is
-- the op count, to the next instruction
abbrev pub relative_place : Instruction → ℕ → Varnode → Option Place
relative_place i n count = index_place i (pos n +ℤ signed count.size count.offset)

-- where a branch to this destination leads: by a constant within the instruction, else to the address
abbrev pub branch_place : Instruction → ℕ → Varnode → Option Place
branch_place i n to = if to.space == 0 then relative_place i n to else Some (place to.offset 0)
