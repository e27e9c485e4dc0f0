-- Expressions by the number of their operands, the variables that they read, and expressions in the place of variables.
-- A node is a constant, a variable, or has one operand or two. What holds of all expressions is proved by these four.
-- This project's own.
use Rattle.std.specs.Prelude.{ℕ, ◌+◌, ◌==◌, ◌<◌, ◌≡◌, max, if◌then◌else◌, List, [], ◌∷◌, ◌++◌, Option, Some, None}
use Rattle.bits_core.specs.declared.word.Width.{Width}
use Rattle.bits_core.specs.declared.ops.Binary.TheVariants as B
use Rattle.bits_core.specs.Value.{unary_value, binary_value, divide_value}
use Rattle.cmeaning.specs.declared.tree.UnaryOp.{UnaryOp}
use Rattle.cmeaning.specs.declared.tree.ArithmeticOp.{ArithmeticOp}
use Rattle.cmeaning.specs.declared.tree.DivisionOp.{DivisionOp}
use Rattle.cmeaning.specs.declared.tree.SignedDivisionOp.{SignedDivisionOp}
use Rattle.cmeaning.specs.declared.tree.ShiftOp.{ShiftOp}
use Rattle.cmeaning.specs.declared.tree.CompareOp.{CompareOp}
use Rattle.cmeaning.specs.declared.tree.SignedCompareOp.{SignedCompareOp}
use Rattle.cmeaning.specs.declared.tree.ExtendOp.{ExtendOp}
use Rattle.cmeaning.specs.declared.tree.OverflowOp.{OverflowOp}
use Rattle.cmeaning.specs.declared.tree.CountOp.{CountOp}
use Rattle.cmeaning.specs.declared.tree.Expr.{Expr, fold-Expr}
use Rattle.cmeaning.specs.declared.tree.Expr.TheOpen.{Expr-F}
use Rattle.cmeaning.specs.declared.tree.Expr.TheVariants as E
use Rattle.cmeaning.specs.Value.{unary_of, arithmetic_of, division_of, signed_division_of, shift_of, compare_of, signed_compare_of, extend_of, overflow_of, count_of, signed_quotient, width_of, value_of}

-- what a variable holds, None where it was never assigned
abbrev pub Env : Type 0
Env = ℕ → Option ℕ

-- ---- nodes with operands

-- a node with one operand, without it
pub data One : Type 0 where
  Unary : UnaryOp → One
  Extend : ExtendOp → Width → One
  Part : ℕ → Width → One
  Count : CountOp → One

-- a node with two operands, without them
pub data Two : Type 0 where
  Arithmetic : ArithmeticOp → Two
  Division : DivisionOp → Two
  SignedDivision : SignedDivisionOp → Two
  Shift : ShiftOp → Two
  Compare : CompareOp → Two
  SignedCompare : SignedCompareOp → Two
  Concat : Two
  Overflow : OverflowOp → Two

abbrev pub one : One → Expr → Expr
one (Unary op) a = E.Unary op a
one (Extend op w) a = E.Extend op w a
one (Part dropped w) a = E.Part dropped w a
one (Count op) a = E.Count op a

abbrev pub two : Two → Expr → Expr → Expr
two (Arithmetic op) a b = E.Arithmetic op a b
two (Division op) a b = E.Division op a b
two (SignedDivision op) a b = E.SignedDivision op a b
two (Shift op) a b = E.Shift op a b
two (Compare op) a b = E.Compare op a b
two (SignedCompare op) a b = E.SignedCompare op a b
two Concat a b = E.Concat a b
two (Overflow op) a b = E.Overflow op a b

-- the width of a node, from the widths of its operands
abbrev pub one_width : One → ℕ → ℕ
one_width (Unary op) v = v
one_width (Extend op w) v = w.bytes
one_width (Part dropped w) v = w.bytes
one_width (Count op) v = 1

abbrev pub two_width : Two → ℕ → ℕ → ℕ
two_width (Arithmetic op) v w = v
two_width (Division op) v w = v
two_width (SignedDivision op) v w = v
two_width (Shift op) v w = v
two_width (Compare op) v w = 1
two_width (SignedCompare op) v w = 1
two_width Concat v w = v + w
two_width (Overflow op) v w = 1

-- the value of a node, from the widths and the values of its operands
abbrev pub one_value : One → ℕ → ℕ → Option ℕ
one_value (Unary op) v x = Some (unary_value (unary_of op) v x v)
one_value (Extend op w) v x = Some (unary_value (extend_of op) v x w.bytes)
one_value (Part dropped w) v x = Some (binary_value B.Subpiece v x 1 dropped w.bytes)
one_value (Count op) v x = Some (unary_value (count_of op) v x 1)

abbrev pub two_value : Two → ℕ → ℕ → ℕ → ℕ → Option ℕ
two_value (Arithmetic op) v w x y = Some (binary_value (arithmetic_of op) v x w y v)
two_value (Division op) v w x y = divide_value (division_of op) v x y
two_value (SignedDivision op) v w x y = signed_quotient (signed_division_of op) v x y
two_value (Shift op) v w x y = Some (binary_value (shift_of op) v x w y v)
two_value (Compare op) v w x y = Some (binary_value (compare_of op) v x w y 1)
two_value (SignedCompare op) v w x y = Some (binary_value (signed_compare_of op) v x w y 1)
two_value Concat v w x y = Some (binary_value B.Piece v x w y (v + w))
two_value (Overflow op) v w x y = Some (binary_value (overflow_of op) v x w y 1)

-- ---- the variables that are read

abbrev pub variables_step : Expr-F (List ℕ) → List ℕ
variables_step (Expr-F.Const c) = []
variables_step (Expr-F.Var x) = x ∷ []
variables_step (Expr-F.Unary op a) = a
variables_step (Expr-F.Arithmetic op a b) = a ++ b
variables_step (Expr-F.Division op a b) = a ++ b
variables_step (Expr-F.SignedDivision op a b) = a ++ b
variables_step (Expr-F.Shift op a b) = a ++ b
variables_step (Expr-F.Compare op a b) = a ++ b
variables_step (Expr-F.SignedCompare op a b) = a ++ b
variables_step (Expr-F.Extend op w a) = a
variables_step (Expr-F.Part dropped w a) = a
variables_step (Expr-F.Concat a b) = a ++ b
variables_step (Expr-F.Overflow op a b) = a ++ b
variables_step (Expr-F.Count op a) = a

-- each read of an expression, in the order of its text
unfoldable pub variables : Expr → List ℕ
variables e = fold-Expr (List ℕ) variables_step e

-- how often a number stands in a list
abbrev pub times : ℕ → List ℕ → ℕ
times v [] = 0
times v (x ∷ xs) = (if v == x then 1 else 0) + times v xs

-- how often an expression reads a variable
unfoldable pub reads : Expr → ℕ → ℕ
reads e v = times v (variables e)

-- the same of several
abbrev pub reads_all : List Expr → ℕ → ℕ
reads_all [] v = 0
reads_all (e ∷ es) v = reads e v + reads_all es v

-- ---- depth

abbrev pub depth_step : Expr-F ℕ → ℕ
depth_step (Expr-F.Const c) = 1
depth_step (Expr-F.Var x) = 1
depth_step (Expr-F.Unary op a) = a + 1
depth_step (Expr-F.Arithmetic op a b) = max a b + 1
depth_step (Expr-F.Division op a b) = max a b + 1
depth_step (Expr-F.SignedDivision op a b) = max a b + 1
depth_step (Expr-F.Shift op a b) = max a b + 1
depth_step (Expr-F.Compare op a b) = max a b + 1
depth_step (Expr-F.SignedCompare op a b) = max a b + 1
depth_step (Expr-F.Extend op w a) = a + 1
depth_step (Expr-F.Part dropped w a) = a + 1
depth_step (Expr-F.Concat a b) = max a b + 1
depth_step (Expr-F.Overflow op a b) = max a b + 1
depth_step (Expr-F.Count op a) = a + 1

-- 1 for a constant or a variable, and else 1 more than the greatest of its operands
unfoldable pub depth : Expr → ℕ
depth e = fold-Expr ℕ depth_step e

-- ---- expressions in the place of variables

abbrev pub with_step : (ℕ → Expr) → Expr-F Expr → Expr
with_step f (Expr-F.Const c) = E.Const c
with_step f (Expr-F.Var x) = f x
with_step f (Expr-F.Unary op a) = E.Unary op a
with_step f (Expr-F.Arithmetic op a b) = E.Arithmetic op a b
with_step f (Expr-F.Division op a b) = E.Division op a b
with_step f (Expr-F.SignedDivision op a b) = E.SignedDivision op a b
with_step f (Expr-F.Shift op a b) = E.Shift op a b
with_step f (Expr-F.Compare op a b) = E.Compare op a b
with_step f (Expr-F.SignedCompare op a b) = E.SignedCompare op a b
with_step f (Expr-F.Extend op w a) = E.Extend op w a
with_step f (Expr-F.Part dropped w a) = E.Part dropped w a
with_step f (Expr-F.Concat a b) = E.Concat a b
with_step f (Expr-F.Overflow op a b) = E.Overflow op a b
with_step f (Expr-F.Count op a) = E.Count op a

-- each variable replaced by an expression
unfoldable pub with_all : (ℕ → Expr) → Expr → Expr
with_all f e = fold-Expr Expr (with_step f) e

abbrev pub with_each : (ℕ → Expr) → List Expr → List Expr
with_each f [] = []
with_each f (e ∷ es) = with_all f e ∷ with_each f es

-- each variable as itself, and under another name
abbrev pub own : ℕ → Expr
own v = E.Var v

abbrev pub named : (ℕ → ℕ) → ℕ → Expr
named g v = E.Var (g v)

-- what a variable is seen to hold, where its expression is computed by the environment of another run
abbrev pub seen_through : (ℕ → ℕ) → (ℕ → Expr) → Env → Env
seen_through ws f t v = value_of ws t (f v)

-- the expression of each variable that is read has the variable's width
abbrev pub KeepsWidths : (ℕ → ℕ) → (ℕ → ℕ) → (ℕ → Expr) → (ℕ → ℕ) → Type 0
KeepsWidths ws ws' f count = (v : ℕ) → 0 < count v → width_of ws' (f v) ≡ ws v

-- ---- several values

abbrev pub both : Option ℕ → Option (List ℕ) → Option (List ℕ)
both None ns = None
both (Some n) None = None
both (Some n) (Some ns) = Some (n ∷ ns)

-- the values, where each has one
abbrev pub all_of : List (Option ℕ) → Option (List ℕ)
all_of [] = Some []
all_of (o ∷ os) = both o (all_of os)

abbrev pub widths_of : (ℕ → ℕ) → List Expr → List ℕ
widths_of ws [] = []
widths_of ws (e ∷ es) = width_of ws e ∷ widths_of ws es

-- ---- expressions that always have a value

-- the variable has a word
abbrev pub Holds : Env → ℕ → Type 0
Holds env v = (n : ℕ) × (env v ≡ Some n)

-- It has a value wherever the variables have one that it reads, as one that divides by constants other than 0 alone.
abbrev pub IsTotal : (ℕ → ℕ) → Expr → Type 0
IsTotal ws e = (env : Env) → ((v : ℕ) → 0 < reads e v → Holds env v) → (n : ℕ) × (value_of ws env e ≡ Some n)

abbrev pub AreTotal : (ℕ → ℕ) → List Expr → Type 0
AreTotal ws [] = Unit {0}
AreTotal ws (e ∷ es) = IsTotal ws e × AreTotal ws es

-- ---- environments that agree on what is read

-- where the first has a value for what is read, the second has the same
abbrev pub AgreeOn : (ℕ → ℕ) → Env → Env → Type 0
AgreeOn count s t = (v : ℕ) → 0 < count v → (n : ℕ) → s v ≡ Some n → t v ≡ Some n

-- where the first has values, the second has the same
abbrev pub Below : Option (List ℕ) → Option (List ℕ) → Type 0
Below o o' = (ns : List ℕ) → o ≡ Some ns → o' ≡ Some ns
