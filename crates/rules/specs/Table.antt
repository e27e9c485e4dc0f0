-- The table of rewrite rules.
use Rattle.std.specs.Prelude.{ℕ}
use Rattle.bits_core.specs.declared.word.Word.{Word}
use Rattle.cmeaning.specs.declared.tree.ArithmeticOp.{ArithmeticOp}
use Rattle.cmeaning.specs.declared.tree.CompareOp.{CompareOp}
use Rattle.cmeaning.specs.declared.tree.OverflowOp.{OverflowOp}
use Rattle.cmeaning.specs.declared.tree.Expr.{Expr}
use Rattle.cmeaning.specs.declared.tree.Expr.TheVariants as E
use Rattle.rules.specs.Letters.{IsNoConstant, IsEquality, Commutes, CommutesFlag}
use Rattle.rules.specs.Folds.{Folding}
use Rattle.rules.specs.Arithmetic.{Summing}
use Rattle.rules.specs.Shifts.{Shifting}
use Rattle.rules.specs.Parts.{Parting}
use Rattle.rules.specs.Booleans.{Deciding}
use Rattle.rules.specs.Comparisons.{Comparing}

-- a rule of a family, its operands in the order in which the family names them
pub data Form (ws : ℕ → ℕ) : Expr → Expr → Type 0 where
  OfFolds : (l r : Expr) → Folding ws l r → Form ws l r
  OfArithmetic : (l r : Expr) → Summing ws l r → Form ws l r
  OfShifts : (l r : Expr) → Shifting ws l r → Form ws l r
  OfParts : (l r : Expr) → Parting ws l r → Form ws l r
  OfBooleans : (l r : Expr) → Deciding l r → Form ws l r
  OfComparisons : (l r : Expr) → Comparing l r → Form ws l r

-- A rule of the table. The operands of a commutative operation stand in either order; only F2 asks for the one order.
pub data Rule (ws : ℕ → ℕ) : Expr → Expr → Type 0 where
  AsNamed : (l r : Expr) → Form ws l r → Rule ws l r
  Turned : (op : ArithmeticOp) (x y r : Expr) → Commutes op → Form ws (E.Arithmetic op x y) r
      → Rule ws (E.Arithmetic op y x) r
  TurnedTest : (op : CompareOp) (x y r : Expr) → IsEquality op → Form ws (E.Compare op x y) r
      → Rule ws (E.Compare op y x) r
  TurnedFlag : (op : OverflowOp) (x y r : Expr) → CommutesFlag op → Form ws (E.Overflow op x y) r
      → Rule ws (E.Overflow op y x) r
  -- Add, Mul, And, Or, Xor, Eq, Ne with a constant left alone: operands changed over
  F2 : (op : ArithmeticOp) (c : Word) (x : Expr) → Commutes op → IsNoConstant x
      → Rule ws (E.Arithmetic op (E.Const c) x) (E.Arithmetic op x (E.Const c))
  F2_test : (op : CompareOp) (c : Word) (x : Expr) → IsEquality op → IsNoConstant x
      → Rule ws (E.Compare op (E.Const c) x) (E.Compare op x (E.Const c))
