-- The words of the operations, as the P-Code Reference Manual writes them. Letter case counts.
use Rattle.std.specs.Prelude.{◌++◌, codes}
use Rattle.listing_lines.specs.Text.{Line}
use Rattle.bits_core.specs.declared.ops.Unary.{Unary}
use Rattle.bits_core.specs.declared.ops.Unary.TheVariants as unary
use Rattle.bits_core.specs.declared.ops.Binary.{Binary}
use Rattle.bits_core.specs.declared.ops.Binary.TheVariants as binary
use Rattle.bits_core.specs.declared.ops.Divide.{Divide}
use Rattle.bits_core.specs.declared.ops.Divide.TheVariants as divide
use Rattle.pcode_model.specs.declared.opcode.Opcode.{Opcode}
use Rattle.pcode_model.specs.declared.opcode.Opcode.TheVariants as opcode
use Rattle.pcode_model.specs.declared.opcode.FloatConversion.{FloatConversion}
use Rattle.pcode_model.specs.declared.opcode.FloatConversion.TheVariants as conversion
use Rattle.pcode_model.specs.declared.opcode.AnalysisOp.{AnalysisOp}
use Rattle.pcode_model.specs.declared.opcode.AnalysisOp.TheVariants as analysis
use Rattle.pcode_model.specs.declared.opcode.LeftOutOp.{LeftOutOp}
use Rattle.pcode_model.specs.declared.opcode.LeftOutOp.TheVariants as left_out

abbrev pub unary_word : Unary → Line
unary_word unary.Copy = codes "COPY"
unary_word unary.Negate = codes "INT_2COMP"
unary_word unary.Complement = codes "INT_NEGATE"
unary_word unary.ZeroExtend = codes "INT_ZEXT"
unary_word unary.SignExtend = codes "INT_SEXT"
unary_word unary.CountOnes = codes "POPCOUNT"
unary_word unary.CountLeadingZeros = codes "LZCOUNT"
unary_word unary.BoolNegate = codes "BOOL_NEGATE"

abbrev pub binary_word : Binary → Line
binary_word binary.Piece = codes "PIECE"
binary_word binary.Subpiece = codes "SUBPIECE"
binary_word binary.Add = codes "INT_ADD"
binary_word binary.Subtract = codes "INT_SUB"
binary_word binary.Multiply = codes "INT_MULT"
binary_word binary.And = codes "INT_AND"
binary_word binary.Or = codes "INT_OR"
binary_word binary.Xor = codes "INT_XOR"
binary_word binary.Equal = codes "INT_EQUAL"
binary_word binary.NotEqual = codes "INT_NOTEQUAL"
binary_word binary.Less = codes "INT_LESS"
binary_word binary.LessEqual = codes "INT_LESSEQUAL"
binary_word binary.SignedLess = codes "INT_SLESS"
binary_word binary.SignedLessEqual = codes "INT_SLESSEQUAL"
binary_word binary.Carry = codes "INT_CARRY"
binary_word binary.SignedCarry = codes "INT_SCARRY"
binary_word binary.SignedBorrow = codes "INT_SBORROW"
binary_word binary.Left = codes "INT_LEFT"
binary_word binary.Right = codes "INT_RIGHT"
binary_word binary.SignedRight = codes "INT_SRIGHT"
binary_word binary.BoolAnd = codes "BOOL_AND"
binary_word binary.BoolOr = codes "BOOL_OR"
binary_word binary.BoolXor = codes "BOOL_XOR"

abbrev pub divide_word : Divide → Line
divide_word divide.Quotient = codes "INT_DIV"
divide_word divide.SignedQuotient = codes "INT_SDIV"
divide_word divide.Remainder = codes "INT_REM"
divide_word divide.SignedRemainder = codes "INT_SREM"

abbrev pub conversion_word : FloatConversion → Line
conversion_word conversion.FromInt = codes "INT2FLOAT"
conversion_word conversion.Resize = codes "FLOAT2FLOAT"
conversion_word conversion.Truncate = codes "TRUNC"
conversion_word conversion.Ceiling = codes "CEIL"
conversion_word conversion.Floor = codes "FLOOR"
conversion_word conversion.Round = codes "ROUND"

abbrev pub analysis_word : AnalysisOp → Line
analysis_word analysis.MultiEqual = codes "MULTIEQUAL"
analysis_word analysis.Indirect = codes "INDIRECT"
analysis_word analysis.PtrAdd = codes "PTRADD"
analysis_word analysis.PtrSub = codes "PTRSUB"
analysis_word analysis.Cast = codes "CAST"

abbrev pub left_out_word : LeftOutOp → Line
left_out_word left_out.Insert = codes "INSERT"
left_out_word left_out.Extract = codes "EXTRACT"
left_out_word left_out.SegmentOp = codes "SEGMENTOP"
left_out_word left_out.CpoolRef = codes "CPOOLREF"
left_out_word left_out.New = codes "NEW"

-- the word of an operation
abbrev pub word_of : Opcode → Line
word_of (opcode.Unary op) = unary_word op
word_of (opcode.Binary op) = binary_word op
word_of (opcode.Divide op) = divide_word op
word_of opcode.Load = codes "LOAD"
word_of opcode.Store = codes "STORE"
word_of opcode.Branch = codes "BRANCH"
word_of opcode.CBranch = codes "CBRANCH"
word_of opcode.BranchInd = codes "BRANCHIND"
word_of opcode.Call = codes "CALL"
word_of opcode.CallInd = codes "CALLIND"
word_of opcode.CallOther = codes "CALLOTHER"
word_of opcode.Return = codes "RETURN"
word_of (opcode.Float more) = codes "FLOAT_" ++ more
word_of (opcode.FloatConversion op) = conversion_word op
word_of (opcode.Analysis op) = analysis_word op
word_of (opcode.LeftOut op) = left_out_word op
