-- The expressions that stand for operations, parts of words, divisions and addresses. This project's own.
use Rattle.std.specs.Prelude.{ℕ, ◌-◌, ◌%◌, ◌<◌, ◌≤◌, ◌==◌, ◌&&◌, nat_le, nat_lt, not, Bool, min, max, if◌then◌else◌, Option, Some, None}
use Rattle.std.proofs.Common.{arith}
use Rattle.std.proofs.Math.Nat.{mod-lt}
use Rattle.bits_core.proofs.Limits.{limit_pos}
use Rattle.bits_core.specs.Value.{limit}
use Rattle.bits_core.specs.declared.word.Width.{Width}
use Rattle.bits_core.specs.declared.word.Word.{Word}
use Rattle.bits_core.specs.declared.ops.Unary.{Unary}
use Rattle.bits_core.specs.declared.ops.Unary.TheVariants as U
use Rattle.bits_core.specs.declared.ops.Binary.{Binary}
use Rattle.bits_core.specs.declared.ops.Binary.TheVariants as B
use Rattle.bits_core.specs.declared.ops.Divide.{Divide}
use Rattle.bits_core.specs.declared.ops.Divide.TheVariants as D
use Rattle.pcode_model.specs.declared.listing.Varnode.{Varnode}
use Rattle.cmeaning.specs.declared.tree.UnaryOp.TheVariants.{Neg, Not}
use Rattle.cmeaning.specs.declared.tree.ArithmeticOp.TheVariants.{Add, Sub, Mul, And, Or, Xor}
use Rattle.cmeaning.specs.declared.tree.DivisionOp.TheVariants.{Div, Rem}
use Rattle.cmeaning.specs.declared.tree.SignedDivisionOp.TheVariants.{SDiv, SRem}
use Rattle.cmeaning.specs.declared.tree.StatementDivision.{StatementDivision}
use Rattle.cmeaning.specs.declared.tree.StatementDivision.TheVariants as statement
use Rattle.cmeaning.specs.declared.tree.ShiftOp.TheVariants.{Shl, Shr, Sar}
use Rattle.cmeaning.specs.declared.tree.CompareOp.TheVariants.{Eq, Ne, Lt, Le}
use Rattle.cmeaning.specs.declared.tree.SignedCompareOp.TheVariants.{SLt, SLe}
use Rattle.cmeaning.specs.declared.tree.ExtendOp.TheVariants.{Zext, Sext}
use Rattle.cmeaning.specs.declared.tree.OverflowOp.TheVariants.{Carry, SCarry, SBorrow}
use Rattle.cmeaning.specs.declared.tree.CountOp.TheVariants.{Popcount, Lzcount}
use Rattle.cmeaning.specs.declared.tree.Expr.{Expr}
use Rattle.cmeaning.specs.declared.tree.Expr.TheVariants as E

-- the number of 1 to 16 that is nearest
abbrev pub nearest : ℕ → ℕ
nearest w = min 16 (max 1 w)

pub nearest_from : (w : ℕ) → 0 < nearest w
nearest_from w = omega arith

pub nearest_to : (w : ℕ) → nearest w ≤ 16
nearest_to w = omega arith

-- the width of so many bytes, or the nearest one
abbrev pub width_by : ℕ → Width
width_by w = record { bytes = nearest w; from = nearest_from w; to = nearest_to w }

-- the width of a range, where there is one
abbrev pub width_of_range : Option Varnode → Option Width
width_of_range None = None
width_of_range (Some v) = Some (width_by v.size)

-- a number as a word of so many bytes, reduced to them
abbrev pub word_by : ℕ → ℕ → Word
word_by w n = record { value = n % limit (nearest w); width = width_by w; below = mod-lt n (limit_pos (nearest w)) }

-- a constant of a width in bytes
abbrev pub constant : ℕ → ℕ → Expr
constant w n = E.Const (word_by w n)

-- to a greater width with zeros, unless it is that width
abbrev pub widened : ℕ → Expr → Expr
widened w e = if w == 1 then e else E.Extend Zext (width_by w) e

-- an operation with one input, at an output of w bytes; a count is one byte wide
abbrev pub unary_node : Unary → ℕ → Expr → Expr
unary_node U.Copy w e = e
unary_node U.Negate w e = E.Unary Neg e
unary_node U.Complement w e = E.Unary Not e
unary_node U.ZeroExtend w e = E.Extend Zext (width_by w) e
unary_node U.SignExtend w e = E.Extend Sext (width_by w) e
unary_node U.CountOnes w e = widened w (E.Count Popcount e)
unary_node U.CountLeadingZeros w e = widened w (E.Count Lzcount e)
unary_node U.BoolNegate w e = E.Arithmetic Xor e (constant 1 1)

-- ---- parts of words

-- w of the u bytes of an expression, behind k low ones, where these lie within it
abbrev pub within_node : (u k w : ℕ) → Expr → Expr
within_node u k w e = if w == u then e else E.Part k (width_by w) e

-- SUBPIECE of an expression of u bytes: the w bytes behind k low ones, and zeros past its top
abbrev pub part_node : (u k w : ℕ) → Expr → Expr
part_node u k w e = if nat_le u k then constant w 0
    else (if nat_le w (u - k) then within_node u k w e
    else E.Extend Zext (width_by w) (within_node u k (u - k) e))

-- ---- two operands

-- An operation with two inputs. Of SUBPIECE the first input has u bytes, the second one is k, and the output has w.
abbrev pub binary_node : Binary → (u k w : ℕ) → Expr → Expr → Expr
binary_node B.Piece u k w d e = E.Concat d e
binary_node B.Subpiece u k w d e = part_node (nearest u) k w d
binary_node B.Add u k w d e = E.Arithmetic Add d e
binary_node B.Subtract u k w d e = E.Arithmetic Sub d e
binary_node B.Multiply u k w d e = E.Arithmetic Mul d e
binary_node B.And u k w d e = E.Arithmetic And d e
binary_node B.Or u k w d e = E.Arithmetic Or d e
binary_node B.Xor u k w d e = E.Arithmetic Xor d e
binary_node B.Equal u k w d e = E.Compare Eq d e
binary_node B.NotEqual u k w d e = E.Compare Ne d e
binary_node B.Less u k w d e = E.Compare Lt d e
binary_node B.LessEqual u k w d e = E.Compare Le d e
binary_node B.SignedLess u k w d e = E.SignedCompare SLt d e
binary_node B.SignedLessEqual u k w d e = E.SignedCompare SLe d e
binary_node B.Carry u k w d e = E.Overflow Carry d e
binary_node B.SignedCarry u k w d e = E.Overflow SCarry d e
binary_node B.SignedBorrow u k w d e = E.Overflow SBorrow d e
binary_node B.Left u k w d e = E.Shift Shl d e
binary_node B.Right u k w d e = E.Shift Shr d e
binary_node B.SignedRight u k w d e = E.Shift Sar d e
binary_node B.BoolAnd u k w d e = E.Arithmetic And d e
binary_node B.BoolOr u k w d e = E.Arithmetic Or d e
binary_node B.BoolXor u k w d e = E.Arithmetic Xor d e

-- ---- divisions

-- Whether a division of words of w bytes by a constant is an expression: the constant isn't 0, nor all ones where the
-- division is signed.
abbrev pub divides_by : Divide → (w n : ℕ) → Bool
divides_by D.Quotient w n = not (n == 0)
divides_by D.Remainder w n = not (n == 0)
divides_by D.SignedQuotient w n = not (n == 0) && not (n == limit w - 1)
divides_by D.SignedRemainder w n = not (n == 0) && not (n == limit w - 1)

abbrev pub division_node : Divide → Expr → Expr → Expr
division_node D.Quotient d e = E.Division Div d e
division_node D.Remainder d e = E.Division Rem d e
division_node D.SignedQuotient d e = E.SignedDivision SDiv d e
division_node D.SignedRemainder d e = E.SignedDivision SRem d e

-- any other one is a statement
abbrev pub statement_of : Divide → StatementDivision
statement_of D.Quotient = statement.Div
statement_of D.Remainder = statement.Rem
statement_of D.SignedQuotient = statement.SDiv
statement_of D.SignedRemainder = statement.SRem

-- ---- addresses

-- The byte address that an expression of w bytes counts, in a space whose offsets have s bytes and whose words have
-- k: a product of the wider of both widths.
abbrev pub address_node : (s k w : ℕ) → Expr → Expr
address_node s k w e = if k == 1 then e
    else (if nat_lt w s then E.Arithmetic Mul (E.Extend Zext (width_by s) e) (constant s k)
    else E.Arithmetic Mul e (constant w k))
