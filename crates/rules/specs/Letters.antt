-- What the letters and the conditions of rules stand for.
use Rattle.std.specs.Prelude.{◌≡◌, ℕ, Some}
use Rattle.bits_core.specs.declared.word.Word.{Word}
use Rattle.bits_core.specs.Value.{binary_value}
use Rattle.cmeaning.specs.declared.tree.ArithmeticOp.{ArithmeticOp}
use Rattle.cmeaning.specs.declared.tree.ArithmeticOp.TheVariants as A
use Rattle.cmeaning.specs.declared.tree.CompareOp.{CompareOp}
use Rattle.cmeaning.specs.declared.tree.CompareOp.TheVariants as C
use Rattle.cmeaning.specs.declared.tree.SignedCompareOp.{SignedCompareOp}
use Rattle.cmeaning.specs.declared.tree.SignedCompareOp.TheVariants as S
use Rattle.cmeaning.specs.declared.tree.OverflowOp.{OverflowOp}
use Rattle.cmeaning.specs.declared.tree.OverflowOp.TheVariants as O
use Rattle.cmeaning.specs.declared.tree.Expr.{Expr}
use Rattle.cmeaning.specs.declared.tree.Expr.TheVariants as E
use Rattle.cmeaning.specs.Value.{arithmetic_of}
use Rattle.rules.specs.Size.{size_of}

-- A letter that a rule names twice stands for one variable or one constant.
pub data IsAtom : Expr → Type 0 where
  Var : (v : ℕ) → IsAtom (E.Var v)
  Const : (c : Word) → IsAtom (E.Const c)

abbrev pub IsNoConstant : Expr → Type 0
IsNoConstant x = (c : Word) → x ≡ E.Const c → ⊥

-- an expression of so many bytes
abbrev pub IsWide : (ℕ → ℕ) → Expr → ℕ → Type 0
IsWide ws x w = size_of ws x ≡ Some w

-- a word of so many bytes and of this value
pub record IsWord (w n : ℕ) (c : Word) : Type 0 where
  pub width : c.width.bytes ≡ w
  pub value : c.value ≡ n

-- the constant that an operation on two constants of one width gives
abbrev pub Folds : ArithmeticOp → Word → Word → Word → Type 0
Folds op c d e = let w : ℕ = c.width.bytes in IsWord w (binary_value (arithmetic_of op) w c.value w d.value w) e

-- ---- operations that have a rule in common

-- x op 0 is x
abbrev pub KeepsAtZero : ArithmeticOp → Type 0
KeepsAtZero A.Mul = ⊥
KeepsAtZero A.And = ⊥
KeepsAtZero op = Unit {0}

-- x op 0 is 0
abbrev pub FallsAtZero : ArithmeticOp → Type 0
FallsAtZero A.Mul = Unit {0}
FallsAtZero A.And = Unit {0}
FallsAtZero op = ⊥

-- x op x is 0
abbrev pub Cancels : ArithmeticOp → Type 0
Cancels A.Sub = Unit {0}
Cancels A.Xor = Unit {0}
Cancels op = ⊥

-- x op x is x
abbrev pub RepeatsItself : ArithmeticOp → Type 0
RepeatsItself A.And = Unit {0}
RepeatsItself A.Or = Unit {0}
RepeatsItself op = ⊥

abbrev pub IsBitwise : ArithmeticOp → Type 0
IsBitwise A.And = Unit {0}
IsBitwise A.Or = Unit {0}
IsBitwise A.Xor = Unit {0}
IsBitwise op = ⊥

abbrev pub IsEquality : CompareOp → Type 0
IsEquality C.Eq = Unit {0}
IsEquality C.Ne = Unit {0}
IsEquality op = ⊥

abbrev pub Commutes : ArithmeticOp → Type 0
Commutes A.Sub = ⊥
Commutes op = Unit {0}

abbrev pub CommutesFlag : OverflowOp → Type 0
CommutesFlag O.SBorrow = ⊥
CommutesFlag op = Unit {0}

-- ---- tests

-- what a comparison of x with x gives
abbrev pub of_self : CompareOp → ℕ
of_self C.Eq = 1
of_self C.Ne = 0
of_self C.Lt = 0
of_self C.Le = 1

abbrev pub of_signed_self : SignedCompareOp → ℕ
of_signed_self S.SLt = 0
of_signed_self S.SLe = 1

-- a comparison and its negation
pub data Negated : Expr → Expr → Type 0 where
  Eq : (x y : Expr) → Negated (E.Compare C.Eq x y) (E.Compare C.Ne x y)
  Ne : (x y : Expr) → Negated (E.Compare C.Ne x y) (E.Compare C.Eq x y)
  Lt : (x y : Expr) → Negated (E.Compare C.Lt x y) (E.Compare C.Le y x)
  Le : (x y : Expr) → Negated (E.Compare C.Le x y) (E.Compare C.Lt y x)
  SLt : (x y : Expr) → Negated (E.SignedCompare S.SLt x y) (E.SignedCompare S.SLe y x)
  SLe : (x y : Expr) → Negated (E.SignedCompare S.SLe x y) (E.SignedCompare S.SLt y x)

-- a node that gives 0 or 1
pub data IsTest : Expr → Type 0 where
  Compare : (op : CompareOp) (x y : Expr) → IsTest (E.Compare op x y)
  SignedCompare : (op : SignedCompareOp) (x y : Expr) → IsTest (E.SignedCompare op x y)
  Overflow : (op : OverflowOp) (x y : Expr) → IsTest (E.Overflow op x y)
