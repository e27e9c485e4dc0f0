-- What each op must obey: the profile of operations. The sizes of integer operations are after the P-Code Reference
-- Manual; the profile, the order of the rules and the limit of 16 bytes are this project's own.
use Rattle.std.specs.Prelude.{ℕ, suc, ◌+◌, ◌^◌, ◌<◌, ◌==◌, ◌&&◌, not, nat_lt, nat_le, Bool, true, false, if◌then◌else◌, List, [], ◌∷◌, length, Option, Some, None}
use Rattle.bits_core.specs.declared.ops.Unary.{Unary}
use Rattle.bits_core.specs.declared.ops.Unary.TheVariants as U
use Rattle.bits_core.specs.declared.ops.Binary.{Binary}
use Rattle.bits_core.specs.declared.ops.Binary.TheVariants as B
use Rattle.pcode_model.specs.declared.listing.SpaceKind.TheVariants.{Ram}
use Rattle.pcode_model.specs.declared.listing.Varnode.{Varnode}
use Rattle.pcode_model.specs.declared.listing.Op.{Op}
use Rattle.pcode_model.specs.declared.listing.Instruction.{Instruction}
use Rattle.pcode_model.specs.declared.listing.Listing.{Listing}
use Rattle.pcode_model.specs.declared.opcode.Opcode.{Opcode}
use Rattle.pcode_model.specs.declared.opcode.Opcode.TheVariants as O
use Rattle.pcode_model.specs.declared.rules.OpWhy.{OpWhy}
use Rattle.pcode_model.specs.declared.rules.OpWhy.TheVariants.{FloatOp, AnalysisOp, OtherOp, Arity, BadSpace, TooWide, OutOfSpace, SizeRule}
use Rattle.pcode_model.specs.declared.rules.OpFault.{OpFault}
use Rattle.pcode_model.specs.declared.rules.Output.{Output}
use Rattle.pcode_model.specs.declared.rules.Output.TheVariants as output
use Rattle.pcode_model.specs.declared.rules.Operands.{Operands}
use Rattle.pcode_model.specs.Spaces.{first_ram, or}
use Rattle.pcode_model.specs.Ranges.{is_kind, leaves}
use Rattle.pcode_model.specs.Places.{place}
use Rattle.pcode_model.specs.Step.{varnode_at, size_out}

-- ---- operations outside the profile

abbrev pub is_float : Opcode → Bool
is_float (O.Float name) = true
is_float (O.FloatConversion op) = true
is_float code = false

abbrev pub is_analysis : Opcode → Bool
is_analysis (O.Analysis op) = true
is_analysis code = false

abbrev pub is_left_out : Opcode → Bool
is_left_out (O.LeftOut op) = true
is_left_out code = false

-- ---- how many inputs an operation has, and whether it has an output

abbrev pub exactly : ℕ → Output → Operands
exactly n out = record { least = n; most = n; output = out }

abbrev pub operands_of : Opcode → Operands
operands_of (O.Unary op) = exactly 1 output.Has
operands_of (O.Binary op) = exactly 2 output.Has
operands_of (O.Divide op) = exactly 2 output.Has
operands_of O.Load = exactly 2 output.Has
operands_of O.Store = exactly 3 output.Lacks
operands_of O.CBranch = exactly 2 output.Lacks
operands_of O.CallOther = record { least = 1; most = 16; output = output.May }
operands_of code = exactly 1 output.Lacks

abbrev pub has_output : Output → Option Varnode → Bool
has_output output.Has None = false
has_output output.Has (Some v) = true
has_output output.Lacks None = true
has_output output.Lacks (Some v) = false
has_output output.May out = true

abbrev pub has_operands : Operands → Option Varnode → ℕ → Bool
has_operands a out n = nat_le a.least n && (nat_le n a.most && has_output a.output out)

-- ---- which spaces stand where

abbrev pub is_constant : Varnode → Bool
is_constant v = v.space == 0

abbrev pub output_is_constant : Option Varnode → Bool
output_is_constant None = false
output_is_constant (Some v) = is_constant v

-- a constant that is the number of a ram space
abbrev pub names_ram : Listing → Varnode → Bool
names_ram l v = is_constant v && is_kind Ram l.spaces v.offset

abbrev pub is_in_first_ram : Listing → Varnode → Bool
is_in_first_ram l v = v.space == first_ram l

-- a constant counts indices, and a range of the first ram space names an address
abbrev pub is_destination : Listing → Varnode → Bool
is_destination l v = or (is_constant v) (is_in_first_ram l v)

abbrev pub inputs_stand : Listing → Opcode → List Varnode → Bool
inputs_stand l O.Load vs = names_ram l (varnode_at vs 0)
inputs_stand l O.Store vs = names_ram l (varnode_at vs 0)
inputs_stand l O.Branch vs = is_destination l (varnode_at vs 0)
inputs_stand l O.CBranch vs = is_destination l (varnode_at vs 0)
inputs_stand l O.Call vs = is_in_first_ram l (varnode_at vs 0)
inputs_stand l O.CallOther vs = is_constant (varnode_at vs 0)
inputs_stand l (O.Binary B.Subpiece) vs = is_constant (varnode_at vs 1)
inputs_stand l code vs = true

abbrev pub spaces_stand : Listing → Op → Bool
spaces_stand l op = not (output_is_constant op.out) && inputs_stand l op.code op.inputs

-- ---- the ranges of an op: a destination names an address, and its size isn't looked at

-- the address that a BRANCH, CBRANCH or CALL names, unless its branch is relative
abbrev pub names_address : Opcode → List Varnode → Bool
names_address O.Branch vs = not (is_constant (varnode_at vs 0))
names_address O.CBranch vs = not (is_constant (varnode_at vs 0))
names_address O.Call vs = not (is_constant (varnode_at vs 0))
names_address code vs = false

abbrev pub past_first : List Varnode → List Varnode
past_first [] = []
past_first (v ∷ vs) = vs

abbrev pub input_ranges : Opcode → List Varnode → List Varnode
input_ranges code vs = if names_address code vs then past_first vs else vs

abbrev pub is_wide : Varnode → Bool
is_wide v = nat_lt 16 v.size

abbrev pub any_wide : List Varnode → Bool
any_wide [] = false
any_wide (v ∷ vs) = or (is_wide v) (any_wide vs)

abbrev pub output_wide : Option Varnode → Bool
output_wide None = false
output_wide (Some v) = is_wide v

abbrev pub is_too_wide : Op → Bool
is_too_wide op = or (any_wide (input_ranges op.code op.inputs)) (output_wide op.out)

-- a range that isn't a constant goes past the end of its space
abbrev pub leaves_space : Listing → Varnode → Bool
leaves_space l v = not (is_constant v) && leaves l.spaces v.space v.offset v.size

abbrev pub any_leaves : Listing → List Varnode → Bool
any_leaves l [] = false
any_leaves l (v ∷ vs) = or (leaves_space l v) (any_leaves l vs)

abbrev pub output_leaves : Listing → Option Varnode → Bool
output_leaves l None = false
output_leaves l (Some v) = leaves_space l v

abbrev pub destination_leaves : Listing → Opcode → List Varnode → Bool
destination_leaves l code vs = names_address code vs && leaves l.spaces (varnode_at vs 0).space (varnode_at vs 0).offset 1

abbrev pub is_out_of_space : Listing → Op → Bool
is_out_of_space l op = or (destination_leaves l op.code op.inputs) (or (any_leaves l (input_ranges op.code op.inputs)) (output_leaves l op.out))

-- ---- sizes, in bytes

abbrev pub unary_sized : Unary → ℕ → ℕ → Bool
unary_sized U.Copy v w = v == w
unary_sized U.Negate v w = v == w
unary_sized U.Complement v w = v == w
unary_sized U.ZeroExtend v w = nat_lt v w
unary_sized U.SignExtend v w = nat_lt v w
unary_sized U.CountOnes v w = true
unary_sized U.CountLeadingZeros v w = true
unary_sized U.BoolNegate v w = v == 1 && w == 1

abbrev pub all_are : ℕ → ℕ → ℕ → ℕ → Bool
all_are n u v w = u == n && (v == n && w == n)

abbrev pub compares : ℕ → ℕ → ℕ → Bool
compares u v w = u == v && w == 1

abbrev pub binary_sized : Binary → ℕ → ℕ → ℕ → Bool
binary_sized B.Piece u v w = w == u + v
binary_sized B.Subpiece u v w = true
binary_sized B.Add u v w = all_are w u v w
binary_sized B.Subtract u v w = all_are w u v w
binary_sized B.Multiply u v w = all_are w u v w
binary_sized B.And u v w = all_are w u v w
binary_sized B.Or u v w = all_are w u v w
binary_sized B.Xor u v w = all_are w u v w
binary_sized B.Equal u v w = compares u v w
binary_sized B.NotEqual u v w = compares u v w
binary_sized B.Less u v w = compares u v w
binary_sized B.LessEqual u v w = compares u v w
binary_sized B.SignedLess u v w = compares u v w
binary_sized B.SignedLessEqual u v w = compares u v w
binary_sized B.Carry u v w = compares u v w
binary_sized B.SignedCarry u v w = compares u v w
binary_sized B.SignedBorrow u v w = compares u v w
binary_sized B.Left u v w = u == w
binary_sized B.Right u v w = u == w
binary_sized B.SignedRight u v w = u == w
binary_sized B.BoolAnd u v w = all_are 1 u v w
binary_sized B.BoolOr u v w = all_are 1 u v w
binary_sized B.BoolXor u v w = all_are 1 u v w

abbrev pub sizes_fit : Opcode → ℕ → List Varnode → Bool
sizes_fit (O.Unary op) w vs = unary_sized op (varnode_at vs 0).size w
sizes_fit (O.Binary op) w vs = binary_sized op (varnode_at vs 0).size (varnode_at vs 1).size w
sizes_fit (O.Divide op) w vs = all_are w (varnode_at vs 0).size (varnode_at vs 1).size w
sizes_fit O.CBranch w vs = (varnode_at vs 1).size == 1
sizes_fit code w vs = true

-- ---- the rules in their order

-- Each rule by the test that breaks it. A later rule speaks of ops that obey the earlier ones.
abbrev pub breaks : Listing → Op → OpWhy → Bool
breaks l op FloatOp = is_float op.code
breaks l op AnalysisOp = is_analysis op.code
breaks l op OtherOp = is_left_out op.code
breaks l op Arity = not (has_operands (operands_of op.code) op.out (length op.inputs))
breaks l op BadSpace = not (spaces_stand l op)
breaks l op TooWide = is_too_wide op
breaks l op OutOfSpace = is_out_of_space l op
breaks l op SizeRule = not (sizes_fit op.code (size_out op.out) op.inputs)

abbrev pub rules : List OpWhy
rules = FloatOp ∷ AnalysisOp ∷ OtherOp ∷ Arity ∷ BadSpace ∷ TooWide ∷ OutOfSpace ∷ SizeRule ∷ []

abbrev pub first_broken_of : Listing → Op → List OpWhy → Option OpWhy
first_broken_of l op [] = None
first_broken_of l op (why ∷ rest) = if breaks l op why then Some why else first_broken_of l op rest

-- the first rule that an op breaks
abbrev pub first_broken : Listing → Op → Option OpWhy
first_broken l op = first_broken_of l op rules

abbrev pub at_place : ℕ → ℕ → Option OpWhy → Option OpFault → Option OpFault
at_place a n None rest = rest
at_place a n (Some why) rest = Some (record { place = place a n; why = why })

-- of the ops of an instruction at an address, from this index on
abbrev pub first_bad_of : Listing → ℕ → ℕ → List Op → Option OpFault → Option OpFault
first_bad_of l a n [] rest = rest
first_bad_of l a n (op ∷ ops) rest = at_place a n (first_broken l op) (first_bad_of l a (suc n) ops rest)

abbrev pub first_bad_in : Listing → List Instruction → Option OpFault
first_bad_in l [] = None
first_bad_in l (i ∷ rest) = first_bad_of l i.address 0 i.ops (first_bad_in l rest)

-- the first op in listing order that breaks a rule, with the first rule that it breaks
abbrev pub first_bad : Listing → Option OpFault
first_bad l = first_bad_in l l.code

-- each instruction has fewer than 2^32 ops
abbrev pub HasFewOps : List Instruction → Type 0
HasFewOps [] = Unit {0}
HasFewOps (i ∷ rest) = (length i.ops < 2 ^ 32) × HasFewOps rest
