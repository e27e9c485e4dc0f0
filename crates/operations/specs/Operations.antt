-- The list of the operations, and the operation of a word.
use Rattle.std.specs.Prelude.{◌≡◌, ◌↔◌, List, [], ◌∷◌, Option, Some, None, codes, if◌then◌else◌}
use Rattle.std.specs.Str.{bytes_eq}
use Rattle.std.specs.Option.{option_map}
use Rattle.listing_lines.specs.Text.{Line}
use Rattle.bits_core.specs.declared.ops.Unary.TheVariants as unary
use Rattle.bits_core.specs.declared.ops.Binary.TheVariants as binary
use Rattle.bits_core.specs.declared.ops.Divide.TheVariants as divide
use Rattle.pcode_model.specs.declared.opcode.Opcode.{Opcode}
use Rattle.pcode_model.specs.declared.opcode.Opcode.TheVariants as opcode
use Rattle.pcode_model.specs.declared.opcode.FloatConversion.TheVariants as conversion
use Rattle.pcode_model.specs.declared.opcode.AnalysisOp.TheVariants as analysis
use Rattle.pcode_model.specs.declared.opcode.LeftOutOp.TheVariants as left_out
use Rattle.operations.specs.declared.operation.Operation.{Operation}
use Rattle.operations.specs.declared.operation.Operation.TheVariants as op
use Rattle.operations.specs.Words.{word_of}

-- the operation as an op has it
abbrev pub code_of : Operation → Opcode
code_of (op.Unary o) = opcode.Unary o
code_of (op.Binary o) = opcode.Binary o
code_of (op.Divide o) = opcode.Divide o
code_of op.Load = opcode.Load
code_of op.Store = opcode.Store
code_of op.Branch = opcode.Branch
code_of op.CBranch = opcode.CBranch
code_of op.BranchInd = opcode.BranchInd
code_of op.Call = opcode.Call
code_of op.CallInd = opcode.CallInd
code_of op.CallOther = opcode.CallOther
code_of op.Return = opcode.Return
code_of (op.FloatConversion o) = opcode.FloatConversion o
code_of (op.Analysis o) = opcode.Analysis o
code_of (op.LeftOut o) = opcode.LeftOut o

-- each operation that has a word of its own
abbrev pub operations : List Operation
operations = op.Unary unary.Copy ∷ op.Unary unary.Negate ∷ op.Unary unary.Complement ∷ op.Unary unary.ZeroExtend ∷
    op.Unary unary.SignExtend ∷ op.Unary unary.CountOnes ∷ op.Unary unary.CountLeadingZeros ∷
    op.Unary unary.BoolNegate ∷ op.Binary binary.Piece ∷ op.Binary binary.Subpiece ∷ op.Binary binary.Add ∷
    op.Binary binary.Subtract ∷ op.Binary binary.Multiply ∷ op.Binary binary.And ∷ op.Binary binary.Or ∷
    op.Binary binary.Xor ∷ op.Binary binary.Equal ∷ op.Binary binary.NotEqual ∷ op.Binary binary.Less ∷
    op.Binary binary.LessEqual ∷ op.Binary binary.SignedLess ∷ op.Binary binary.SignedLessEqual ∷
    op.Binary binary.Carry ∷ op.Binary binary.SignedCarry ∷ op.Binary binary.SignedBorrow ∷
    op.Binary binary.Left ∷ op.Binary binary.Right ∷ op.Binary binary.SignedRight ∷ op.Binary binary.BoolAnd ∷
    op.Binary binary.BoolOr ∷ op.Binary binary.BoolXor ∷ op.Divide divide.Quotient ∷
    op.Divide divide.SignedQuotient ∷ op.Divide divide.Remainder ∷ op.Divide divide.SignedRemainder ∷ op.Load ∷
    op.Store ∷ op.Branch ∷ op.CBranch ∷ op.BranchInd ∷ op.Call ∷ op.CallInd ∷ op.CallOther ∷ op.Return ∷
    op.FloatConversion conversion.FromInt ∷ op.FloatConversion conversion.Resize ∷
    op.FloatConversion conversion.Truncate ∷ op.FloatConversion conversion.Ceiling ∷
    op.FloatConversion conversion.Floor ∷ op.FloatConversion conversion.Round ∷ op.Analysis analysis.MultiEqual ∷
    op.Analysis analysis.Indirect ∷ op.Analysis analysis.PtrAdd ∷ op.Analysis analysis.PtrSub ∷
    op.Analysis analysis.Cast ∷ op.LeftOut left_out.Insert ∷ op.LeftOut left_out.Extract ∷
    op.LeftOut left_out.SegmentOp ∷ op.LeftOut left_out.CpoolRef ∷ op.LeftOut left_out.New ∷ []

-- the first of a list whose word it is
abbrev pub named_by : Line → List Operation → Option Operation
named_by word [] = None
named_by word (o ∷ more) = if bytes_eq word (word_of (code_of o)) then Some o else named_by word more

-- what follows `FLOAT_`
abbrev pub float_of : Line → Option Line
float_of (a ∷ b ∷ c ∷ d ∷ e ∷ f ∷ more) = if bytes_eq (a ∷ b ∷ c ∷ d ∷ e ∷ f ∷ []) (codes "FLOAT_") then Some more else None
float_of _ = None

abbrev pub or_else : {A : Type 0} → Option A → Option A → Option A
or_else None other = other
or_else (Some a) other = Some a

-- the operation of a word, if it is known
abbrev pub opcode_of : Line → Option Opcode
opcode_of word = or_else (option_map opcode.Float (float_of word)) (option_map code_of (named_by word operations))

-- an operation is found exactly where the word is its own
abbrev pub IsCodeOf : Line → Option Opcode → Type 0
IsCodeOf word found = (code : Opcode) → (found ≡ Some code) ↔ (word_of code ≡ word)
