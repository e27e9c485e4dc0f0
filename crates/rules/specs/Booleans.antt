-- The rules of what is 0 or 1.
use Rattle.std.specs.Prelude.{◌≡◌}
use Rattle.bits_core.specs.declared.word.Word.{Word}
use Rattle.cmeaning.specs.declared.tree.ArithmeticOp.TheVariants.{Xor}
use Rattle.cmeaning.specs.declared.tree.CompareOp.TheVariants.{Eq, Ne}
use Rattle.cmeaning.specs.declared.tree.Expr.{Expr}
use Rattle.cmeaning.specs.declared.tree.Expr.TheVariants as E
use Rattle.rules.specs.Letters.{Negated, IsTest}

pub data Deciding : Expr → Expr → Type 0 where
  -- comparison ^ 1, comparison == 0, comparison != 1: the comparison negated
  B1_xor : (k n : Expr) (c : Word) → Negated k n → c.value ≡ 1 → Deciding (E.Arithmetic Xor k (E.Const c)) n
  B1_eq : (k n : Expr) (c : Word) → Negated k n → c.value ≡ 0 → Deciding (E.Compare Eq k (E.Const c)) n
  B1_ne : (k n : Expr) (c : Word) → Negated k n → c.value ≡ 1 → Deciding (E.Compare Ne k (E.Const c)) n
  -- b != 0, b == 1, for a comparison, Carry, SCarry and SBorrow: b
  B2_ne : (b : Expr) (c : Word) → IsTest b → c.value ≡ 0 → Deciding (E.Compare Ne b (E.Const c)) b
  B2_eq : (b : Expr) (c : Word) → IsTest b → c.value ≡ 1 → Deciding (E.Compare Eq b (E.Const c)) b
