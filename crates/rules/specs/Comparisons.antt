-- The rules of comparisons, carries and borrows.
use Rattle.std.specs.Prelude.{◌≡◌}
use Rattle.bits_core.specs.declared.word.Word.{Word}
use Rattle.cmeaning.specs.declared.tree.ArithmeticOp.TheVariants.{Add, Sub, And, Or, Xor}
use Rattle.cmeaning.specs.declared.tree.CompareOp.{CompareOp}
use Rattle.cmeaning.specs.declared.tree.CompareOp.TheVariants.{Eq, Ne, Lt, Le}
use Rattle.cmeaning.specs.declared.tree.SignedCompareOp.{SignedCompareOp}
use Rattle.cmeaning.specs.declared.tree.SignedCompareOp.TheVariants.{SLt, SLe}
use Rattle.cmeaning.specs.declared.tree.OverflowOp.{OverflowOp}
use Rattle.cmeaning.specs.declared.tree.OverflowOp.TheVariants.{SBorrow}
use Rattle.cmeaning.specs.declared.tree.Expr.{Expr}
use Rattle.cmeaning.specs.declared.tree.Expr.TheVariants as E
use Rattle.rules.specs.Letters.{IsAtom, IsWord, Folds, IsEquality, of_self, of_signed_self}

pub data Comparing : Expr → Expr → Type 0 where
  -- x - y == 0, x ^ y == 0, and with !=: x == y
  C1_sub : (op : CompareOp) (x y : Expr) (c : Word) → IsEquality op → c.value ≡ 0
      → Comparing (E.Compare op (E.Arithmetic Sub x y) (E.Const c)) (E.Compare op x y)
  C1_xor : (op : CompareOp) (x y : Expr) (c : Word) → IsEquality op → c.value ≡ 0
      → Comparing (E.Compare op (E.Arithmetic Xor x y) (E.Const c)) (E.Compare op x y)
  -- x + c == d, and with !=: x == d - c
  C2_add : (op : CompareOp) (x : Expr) (c d e : Word) → IsEquality op → Folds Sub d c e
      → Comparing (E.Compare op (E.Arithmetic Add x (E.Const c)) (E.Const d)) (E.Compare op x (E.Const e))
  C2_add_over : (op : CompareOp) (x : Expr) (c d e : Word) → IsEquality op → Folds Sub d c e
      → Comparing (E.Compare op (E.Arithmetic Add (E.Const c) x) (E.Const d)) (E.Compare op x (E.Const e))
  -- x - c == d, and with !=: x == d + c
  C2_sub : (op : CompareOp) (x : Expr) (c d e : Word) → IsEquality op → Folds Add d c e
      → Comparing (E.Compare op (E.Arithmetic Sub x (E.Const c)) (E.Const d)) (E.Compare op x (E.Const e))
  -- SLt(x - y, 0) != SBorrow(x, y): SLt(x, y)
  C3_ne : (x y : Expr) (c : Word) → IsAtom x → IsAtom y → c.value ≡ 0
      → Comparing (E.Compare Ne (E.SignedCompare SLt (E.Arithmetic Sub x y) (E.Const c)) (E.Overflow SBorrow x y))
      (E.SignedCompare SLt x y)
  -- SLt(x - y, 0) == SBorrow(x, y): SLe(y, x)
  C3_eq : (x y : Expr) (c : Word) → IsAtom x → IsAtom y → c.value ≡ 0
      → Comparing (E.Compare Eq (E.SignedCompare SLt (E.Arithmetic Sub x y) (E.Const c)) (E.Overflow SBorrow x y))
      (E.SignedCompare SLe y x)
  -- Eq(x, y) | SLt(x, y): SLe(x, y)
  C4_signed : (x y : Expr) → IsAtom x → IsAtom y
      → Comparing (E.Arithmetic Or (E.Compare Eq x y) (E.SignedCompare SLt x y)) (E.SignedCompare SLe x y)
  C4_signed_over : (x y : Expr) → IsAtom x → IsAtom y
      → Comparing (E.Arithmetic Or (E.Compare Eq y x) (E.SignedCompare SLt x y)) (E.SignedCompare SLe x y)
  -- Eq(x, y) | Lt(x, y): Le(x, y)
  C4 : (x y : Expr) → IsAtom x → IsAtom y
      → Comparing (E.Arithmetic Or (E.Compare Eq x y) (E.Compare Lt x y)) (E.Compare Le x y)
  C4_over : (x y : Expr) → IsAtom x → IsAtom y
      → Comparing (E.Arithmetic Or (E.Compare Eq y x) (E.Compare Lt x y)) (E.Compare Le x y)
  -- Ne(x, y) & SLe(x, y): SLt(x, y)
  C5_signed : (x y : Expr) → IsAtom x → IsAtom y
      → Comparing (E.Arithmetic And (E.Compare Ne x y) (E.SignedCompare SLe x y)) (E.SignedCompare SLt x y)
  C5_signed_over : (x y : Expr) → IsAtom x → IsAtom y
      → Comparing (E.Arithmetic And (E.Compare Ne y x) (E.SignedCompare SLe x y)) (E.SignedCompare SLt x y)
  -- Ne(x, y) & Le(x, y): Lt(x, y)
  C5 : (x y : Expr) → IsAtom x → IsAtom y
      → Comparing (E.Arithmetic And (E.Compare Ne x y) (E.Compare Le x y)) (E.Compare Lt x y)
  C5_over : (x y : Expr) → IsAtom x → IsAtom y
      → Comparing (E.Arithmetic And (E.Compare Ne y x) (E.Compare Le x y)) (E.Compare Lt x y)
  -- Carry, SCarry, SBorrow of x and 0: 0
  C6 : (op : OverflowOp) (x : Expr) (c z : Word) → c.value ≡ 0 → IsWord 1 0 z
      → Comparing (E.Overflow op x (E.Const c)) (E.Const z)
  -- Lt(x, 0): 0
  C7_below_zero : (x : Expr) (c z : Word) → c.value ≡ 0 → IsWord 1 0 z
      → Comparing (E.Compare Lt x (E.Const c)) (E.Const z)
  -- Le(0, x): 1
  C7_from_zero : (x : Expr) (c o : Word) → c.value ≡ 0 → IsWord 1 1 o
      → Comparing (E.Compare Le (E.Const c) x) (E.Const o)
  -- Lt(x, 1): x == 0
  C7_below_one : (x : Expr) (c z : Word) → c.value ≡ 1 → IsWord c.width.bytes 0 z
      → Comparing (E.Compare Lt x (E.Const c)) (E.Compare Eq x (E.Const z))
  -- Le(x, 0): x == 0
  C7_to_zero : (x : Expr) (c : Word) → c.value ≡ 0
      → Comparing (E.Compare Le x (E.Const c)) (E.Compare Eq x (E.Const c))
  -- a comparison of x with x: 1 for Eq, Le and SLe, and else 0
  C8 : (op : CompareOp) (x : Expr) (o : Word) → IsAtom x → IsWord 1 (of_self op) o
      → Comparing (E.Compare op x x) (E.Const o)
  C8_signed : (op : SignedCompareOp) (x : Expr) (o : Word) → IsAtom x → IsWord 1 (of_signed_self op) o
      → Comparing (E.SignedCompare op x x) (E.Const o)
