-- The value of an expression. Each node has the value of the p-code operation that it stands for, as bits_core defines
-- it. What has no value is after C23 (6.5.6, multiplicative operators) and this project's own: a variable that was never
-- assigned, `/` and `%` by 0, and a signed quotient that doesn't fit.
-- A shift prints with `<<` or `>>` only by a constant below its bits, and else as SHL, SHR or SAR, which have a value at
-- every count. So no shift lacks one.
use Rattle.std.specs.Prelude.{ℕ, ◌+◌, ◌-◌, ◌==◌, ◌&&◌, if◌then◌else◌, Option, Some, None}
use Rattle.bits_core.specs.declared.ops.Unary.{Unary}
use Rattle.bits_core.specs.declared.ops.Unary.TheVariants as U
use Rattle.bits_core.specs.declared.ops.Binary.{Binary}
use Rattle.bits_core.specs.declared.ops.Binary.TheVariants as B
use Rattle.bits_core.specs.declared.ops.Divide.{Divide}
use Rattle.bits_core.specs.declared.ops.Divide.TheVariants as D
use Rattle.bits_core.specs.Value.{limit, half, unary_value, binary_value, divide_value}
use Rattle.cmeaning.specs.declared.tree.UnaryOp.{UnaryOp}
use Rattle.cmeaning.specs.declared.tree.UnaryOp.TheVariants.{Neg, Not}
use Rattle.cmeaning.specs.declared.tree.ArithmeticOp.{ArithmeticOp}
use Rattle.cmeaning.specs.declared.tree.ArithmeticOp.TheVariants.{Add, Sub, Mul, And, Or, Xor}
use Rattle.cmeaning.specs.declared.tree.DivisionOp.{DivisionOp}
use Rattle.cmeaning.specs.declared.tree.DivisionOp.TheVariants.{Div, Rem}
use Rattle.cmeaning.specs.declared.tree.SignedDivisionOp.{SignedDivisionOp}
use Rattle.cmeaning.specs.declared.tree.SignedDivisionOp.TheVariants.{SDiv, SRem}
use Rattle.cmeaning.specs.declared.tree.ShiftOp.{ShiftOp}
use Rattle.cmeaning.specs.declared.tree.ShiftOp.TheVariants.{Shl, Shr, Sar}
use Rattle.cmeaning.specs.declared.tree.CompareOp.{CompareOp}
use Rattle.cmeaning.specs.declared.tree.CompareOp.TheVariants.{Eq, Ne, Lt, Le}
use Rattle.cmeaning.specs.declared.tree.SignedCompareOp.{SignedCompareOp}
use Rattle.cmeaning.specs.declared.tree.SignedCompareOp.TheVariants.{SLt, SLe}
use Rattle.cmeaning.specs.declared.tree.ExtendOp.{ExtendOp}
use Rattle.cmeaning.specs.declared.tree.ExtendOp.TheVariants.{Zext, Sext}
use Rattle.cmeaning.specs.declared.tree.OverflowOp.{OverflowOp}
use Rattle.cmeaning.specs.declared.tree.OverflowOp.TheVariants.{Carry, SCarry, SBorrow}
use Rattle.cmeaning.specs.declared.tree.CountOp.{CountOp}
use Rattle.cmeaning.specs.declared.tree.CountOp.TheVariants.{Popcount, Lzcount}
use Rattle.cmeaning.specs.declared.tree.Expr.{Expr, fold-Expr}
use Rattle.cmeaning.specs.declared.tree.Expr.TheOpen.{Expr-F}

-- ---- the operations that nodes stand for

abbrev pub unary_of : UnaryOp → Unary
unary_of Neg = U.Negate
unary_of Not = U.Complement

abbrev pub arithmetic_of : ArithmeticOp → Binary
arithmetic_of Add = B.Add
arithmetic_of Sub = B.Subtract
arithmetic_of Mul = B.Multiply
arithmetic_of And = B.And
arithmetic_of Or = B.Or
arithmetic_of Xor = B.Xor

abbrev pub division_of : DivisionOp → Divide
division_of Div = D.Quotient
division_of Rem = D.Remainder

abbrev pub signed_division_of : SignedDivisionOp → Divide
signed_division_of SDiv = D.SignedQuotient
signed_division_of SRem = D.SignedRemainder

abbrev pub shift_of : ShiftOp → Binary
shift_of Shl = B.Left
shift_of Shr = B.Right
shift_of Sar = B.SignedRight

abbrev pub compare_of : CompareOp → Binary
compare_of Eq = B.Equal
compare_of Ne = B.NotEqual
compare_of Lt = B.Less
compare_of Le = B.LessEqual

abbrev pub signed_compare_of : SignedCompareOp → Binary
signed_compare_of SLt = B.SignedLess
signed_compare_of SLe = B.SignedLessEqual

abbrev pub extend_of : ExtendOp → Unary
extend_of Zext = U.ZeroExtend
extend_of Sext = U.SignExtend

abbrev pub overflow_of : OverflowOp → Binary
overflow_of Carry = B.Carry
overflow_of SCarry = B.SignedCarry
overflow_of SBorrow = B.SignedBorrow

abbrev pub count_of : CountOp → Unary
count_of Popcount = U.CountOnes
count_of Lzcount = U.CountLeadingZeros

-- ---- values that may be lacking

abbrev pub with_value : Option ℕ → (ℕ → Option ℕ) → Option ℕ
with_value None f = None
with_value (Some x) f = f x

-- of two operands
abbrev pub with_values : Option ℕ → Option ℕ → (ℕ → ℕ → Option ℕ) → Option ℕ
with_values a b f = with_value a (λ x. with_value b (f x))

-- `/` and `%` of signed words of w bytes: the least one by -1 has no value, since the quotient doesn't fit
abbrev pub signed_quotient : Divide → ℕ → ℕ → ℕ → Option ℕ
signed_quotient op w a b = if a == half w && b == limit w - 1 then None else divide_value op w a b

-- ---- the width and the value of an expression

-- The width in bytes, and the value where there is one, by what the variables hold.
pub record Meaning : Type 0 where
  pub width : ℕ
  pub value : (ℕ → Option ℕ) → Option ℕ

-- of a node with one operand, whose own width is w
abbrev pub of_one : Unary → ℕ → Meaning → Meaning
of_one op w a = record { width = w; value = λ env. with_value (a.value env) (λ x. Some (unary_value op a.width x w)) }

-- of a node with two operands
abbrev pub of_two : Binary → ℕ → Meaning → Meaning → Meaning
of_two op w a b = record {
  width = w;
  value = λ env. with_values (a.value env) (b.value env) (λ x y. Some (binary_value op a.width x b.width y w));
}

-- by the widths of the variables
abbrev pub meaning_step : (ℕ → ℕ) → Expr-F Meaning → Meaning
meaning_step ws (Expr-F.Const c) = record { width = c.width.bytes; value = λ env. Some c.value }
meaning_step ws (Expr-F.Var v) = record { width = ws v; value = λ env. env v }
meaning_step ws (Expr-F.Unary op a) = of_one (unary_of op) a.width a
meaning_step ws (Expr-F.Arithmetic op a b) = of_two (arithmetic_of op) a.width a b
meaning_step ws (Expr-F.Division op a b) =
    record {
      width = a.width;
      value =
          λ env. with_values (a.value env) (b.value env) (divide_value (division_of op) a.width);
    }
meaning_step ws (Expr-F.SignedDivision op a b) =
    record {
      width = a.width;
      value =
          λ env. with_values (a.value env) (b.value env) (signed_quotient (signed_division_of op) a.width);
    }
meaning_step ws (Expr-F.Shift op a b) = of_two (shift_of op) a.width a b
meaning_step ws (Expr-F.Compare op a b) = of_two (compare_of op) 1 a b
meaning_step ws (Expr-F.SignedCompare op a b) = of_two (signed_compare_of op) 1 a b
meaning_step ws (Expr-F.Extend op w a) = of_one (extend_of op) w.bytes a
meaning_step ws (Expr-F.Part dropped w a) =
    record {
      width = w.bytes;
      value =
          λ env. with_value (a.value env) (λ x. Some (binary_value B.Subpiece a.width x 1 dropped w.bytes));
    }
meaning_step ws (Expr-F.Concat a b) = of_two B.Piece (a.width + b.width) a b
meaning_step ws (Expr-F.Overflow op a b) = of_two (overflow_of op) 1 a b
meaning_step ws (Expr-F.Count op a) = of_one (count_of op) 1 a

unfoldable pub meaning_of : (ℕ → ℕ) → Expr → Meaning
meaning_of ws e = fold-Expr Meaning (meaning_step ws) e

-- the width of an expression in bytes, given the widths of the variables
abbrev pub width_of : (ℕ → ℕ) → Expr → ℕ
width_of ws e = (meaning_of ws e).width

-- the value of an expression, given the widths of the variables and what they hold; None where it has none
abbrev pub value_of : (ℕ → ℕ) → (ℕ → Option ℕ) → Expr → Option ℕ
value_of ws env e = (meaning_of ws e).value env
