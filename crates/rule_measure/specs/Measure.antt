-- The need of a node, by the levels of the variables that it stands over.
use Rattle.std.specs.Prelude.{ℕ, ◌+◌, ◌*◌, max, nat_lt, if◌then◌else◌, Option, Some, None}
use Rattle.bits_core.specs.declared.word.Word.{Word}
use Rattle.cmeaning.specs.declared.tree.ArithmeticOp.{ArithmeticOp}
use Rattle.cmeaning.specs.declared.tree.ArithmeticOp.TheVariants.{Add, Sub}
use Rattle.cmeaning.specs.declared.tree.ShiftOp.{ShiftOp}
use Rattle.cmeaning.specs.declared.tree.ShiftOp.TheVariants.{Sar}
use Rattle.cmeaning.specs.declared.tree.CompareOp.{CompareOp}
use Rattle.cmeaning.specs.declared.tree.CompareOp.TheVariants.{Lt, Le}
use Rattle.cmeaning.specs.declared.tree.Expr.{Expr, fold-Expr, out-Expr}
use Rattle.cmeaning.specs.declared.tree.Expr.TheOpen.{Expr-F}
use Rattle.rules.specs.Size.{size_of}

-- ---- the height over the levels of the variables

abbrev pub height_step : (ℕ → ℕ) → Expr-F ℕ → ℕ
height_step ls (Expr-F.Const c) = 0
height_step ls (Expr-F.Var v) = ls v
height_step ls (Expr-F.Unary op a) = a + 1
height_step ls (Expr-F.Arithmetic op a b) = max a b + 1
height_step ls (Expr-F.Division op a b) = max a b + 1
height_step ls (Expr-F.SignedDivision op a b) = max a b + 1
height_step ls (Expr-F.Shift op a b) = max a b + 1
height_step ls (Expr-F.Compare op a b) = max a b + 1
height_step ls (Expr-F.SignedCompare op a b) = max a b + 1
height_step ls (Expr-F.Extend op w a) = a + 1
height_step ls (Expr-F.Part k w a) = a + 1
height_step ls (Expr-F.Concat a b) = max a b + 1
height_step ls (Expr-F.Overflow op a b) = max a b + 1
height_step ls (Expr-F.Count op a) = a + 1

unfoldable pub height : (ℕ → ℕ) → Expr → ℕ
height ls e = fold-Expr ℕ (height_step ls) e

-- ---- constants

abbrev pub constant_in : Expr-F Expr → Option Word
constant_in (Expr-F.Const c) = Some c
constant_in l = None

unfoldable pub constant_of : Expr → Option Word
constant_of e = constant_in (out-Expr e)

-- 1 where the right operand is no constant: the operands might still be changed over
abbrev pub open_right : Option Word → ℕ
open_right None = 1
open_right (Some c) = 0

-- 1 where the count isn't known to be below the bits of a word of that width
abbrev pub past_bits : Option ℕ → Option Word → ℕ
past_bits None o = 1
past_bits (Some w) None = 1
past_bits (Some w) (Some c) = if nat_lt c.value (8 * w) then 0 else 1

-- ---- the need, by the heights of the operands and by what may still be changed over

abbrev pub one_need : ℕ → ℕ
one_need a = 2 * (a + 1)

abbrev pub two_need : ℕ → ℕ → ℕ
two_need a b = 2 * (max a b + 1)

abbrev pub sum_need : ArithmeticOp → ℕ → ℕ → ℕ → ℕ
sum_need Add a b more = 2 * (a + b) + more + 1
sum_need Sub a b more = 2 * (a + b) + 2
sum_need op a b more = two_need a b + more

abbrev pub shift_need : ShiftOp → ℕ → ℕ → ℕ → ℕ
shift_need Sar a b past = two_need a b + past
shift_need op a b past = two_need a b

abbrev pub compare_need : CompareOp → ℕ → ℕ → ℕ → ℕ
compare_need Lt a b more = two_need a b + 1
compare_need Le a b more = two_need a b + 1
compare_need op a b more = two_need a b + more

-- `more` tells what an operand on the right adds
abbrev pub need_in : (Option Word → ℕ) → (ℕ → ℕ) → (ℕ → ℕ) → Expr-F Expr → ℕ
need_in more ws ls (Expr-F.Const c) = 0
need_in more ws ls (Expr-F.Var v) = 0
need_in more ws ls (Expr-F.Unary op a) = one_need (height ls a)
need_in more ws ls (Expr-F.Arithmetic op a b) = sum_need op (height ls a) (height ls b) (more (constant_of b))
need_in more ws ls (Expr-F.Division op a b) = two_need (height ls a) (height ls b)
need_in more ws ls (Expr-F.SignedDivision op a b) = two_need (height ls a) (height ls b)
need_in more ws ls (Expr-F.Shift op a b) =
    shift_need op (height ls a) (height ls b) (past_bits (size_of ws a) (constant_of b))
need_in more ws ls (Expr-F.Compare op a b) = compare_need op (height ls a) (height ls b) (more (constant_of b))
need_in more ws ls (Expr-F.SignedCompare op a b) = two_need (height ls a) (height ls b)
need_in more ws ls (Expr-F.Extend op w a) = one_need (height ls a)
need_in more ws ls (Expr-F.Part k w a) = one_need (height ls a)
need_in more ws ls (Expr-F.Concat a b) = two_need (height ls a) (height ls b) + 1
need_in more ws ls (Expr-F.Overflow op a b) = two_need (height ls a) (height ls b)
need_in more ws ls (Expr-F.Count op a) = one_need (height ls a)

unfoldable pub need_by : (Option Word → ℕ) → (ℕ → ℕ) → (ℕ → ℕ) → Expr → ℕ
need_by more ws ls e = need_in more ws ls (out-Expr e)

-- the need of an expression's root, by the widths and the levels of the variables
abbrev pub need : (ℕ → ℕ) → (ℕ → ℕ) → Expr → ℕ
need ws ls e = need_by open_right ws ls e
