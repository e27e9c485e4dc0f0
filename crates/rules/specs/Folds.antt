-- F1: a node whose operands are all constants is the constant of its value. A division by 0 has none.
use Rattle.std.specs.Prelude.{◌≡◌, ℕ, Some, None}
use Rattle.bits_core.specs.declared.word.Width.{Width}
use Rattle.bits_core.specs.declared.word.Word.{Word}
use Rattle.cmeaning.specs.declared.tree.UnaryOp.{UnaryOp}
use Rattle.cmeaning.specs.declared.tree.ArithmeticOp.{ArithmeticOp}
use Rattle.cmeaning.specs.declared.tree.DivisionOp.{DivisionOp}
use Rattle.cmeaning.specs.declared.tree.SignedDivisionOp.{SignedDivisionOp}
use Rattle.cmeaning.specs.declared.tree.ShiftOp.{ShiftOp}
use Rattle.cmeaning.specs.declared.tree.CompareOp.{CompareOp}
use Rattle.cmeaning.specs.declared.tree.SignedCompareOp.{SignedCompareOp}
use Rattle.cmeaning.specs.declared.tree.ExtendOp.{ExtendOp}
use Rattle.cmeaning.specs.declared.tree.OverflowOp.{OverflowOp}
use Rattle.cmeaning.specs.declared.tree.CountOp.{CountOp}
use Rattle.cmeaning.specs.declared.tree.Expr.{Expr}
use Rattle.cmeaning.specs.declared.tree.Expr.TheVariants as E
use Rattle.rules.specs.Letters.{IsWide}
use Rattle.rules.specs.Readings.{as_ops, value_by}

-- a node over constants
pub data IsClosed : Expr → Type 0 where
  Unary : (op : UnaryOp) (c : Word) → IsClosed (E.Unary op (E.Const c))
  Arithmetic : (op : ArithmeticOp) (c d : Word) → IsClosed (E.Arithmetic op (E.Const c) (E.Const d))
  Division : (op : DivisionOp) (c d : Word) → IsClosed (E.Division op (E.Const c) (E.Const d))
  SignedDivision : (op : SignedDivisionOp) (c d : Word) → IsClosed (E.SignedDivision op (E.Const c) (E.Const d))
  Shift : (op : ShiftOp) (c d : Word) → IsClosed (E.Shift op (E.Const c) (E.Const d))
  Compare : (op : CompareOp) (c d : Word) → IsClosed (E.Compare op (E.Const c) (E.Const d))
  SignedCompare : (op : SignedCompareOp) (c d : Word) → IsClosed (E.SignedCompare op (E.Const c) (E.Const d))
  Extend : (op : ExtendOp) (w : Width) (c : Word) → IsClosed (E.Extend op w (E.Const c))
  Part : (k : ℕ) (w : Width) (c : Word) → IsClosed (E.Part k w (E.Const c))
  Concat : (c d : Word) → IsClosed (E.Concat (E.Const c) (E.Const d))
  Overflow : (op : OverflowOp) (c d : Word) → IsClosed (E.Overflow op (E.Const c) (E.Const d))
  Count : (op : CountOp) (c : Word) → IsClosed (E.Count op (E.Const c))

-- the word of a node's value, which no variable has a part in
pub record IsValue (ws : ℕ → ℕ) (l : Expr) (e : Word) : Type 0 where
  pub width : IsWide ws l e.width.bytes
  pub value : value_by as_ops ws (λ v. None) l ≡ Some e.value

pub data Folding (ws : ℕ → ℕ) : Expr → Expr → Type 0 where
  F1 : (l : Expr) (e : Word) → IsClosed l → IsValue ws l e → Folding ws l (E.Const e)
