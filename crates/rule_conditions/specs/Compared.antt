-- Comparisons: no left side of a rule is seen.
use Rattle.std.specs.Prelude.{◌≡◌}
use Rattle.bits_core.specs.declared.word.Word.{Word}
use Rattle.cmeaning.specs.declared.tree.ArithmeticOp.{ArithmeticOp}
use Rattle.cmeaning.specs.declared.tree.ArithmeticOp.TheVariants as O
use Rattle.cmeaning.specs.declared.tree.CompareOp.{CompareOp}
use Rattle.cmeaning.specs.declared.tree.CompareOp.TheVariants as C
use Rattle.cmeaning.specs.declared.tree.Expr.{Expr}
use Rattle.cmeaning.specs.declared.tree.Expr.TheVariants as E
use Rattle.rules.specs.Letters.{Cancels, Folds, IsEquality}
use Rattle.rule_views.specs.Sees.{Sight, NoAtom, NoZero}
use Rattle.rule_views.specs.Beside.{IsSum, NoneBeside}
use Rattle.rule_views.specs.Variables.{Variables}
use Rattle.rule_conditions.specs.Twice.{NoBorrow}

-- no x - y and no x ^ y
abbrev pub NoDifference : {S : Type 0} → Sight S → S → Type 0
NoDifference sees at = (vs : Variables) (op : ArithmeticOp) (x y : Expr) → Cancels op → sees vs at (E.Arithmetic op x y) → ⊥

-- x inner c is d where x is e
abbrev pub Moves : ArithmeticOp → Word → Word → Word → Type 0
Moves O.Add c d e = Folds O.Sub d c e
Moves O.Sub c d e = Folds O.Add d c e
Moves inner c d e = Unit {0}

-- ---- of a comparison

pub record NoneComparedBy {S : Type 0} (sees : Sight S) (op : CompareOp) (a : S) (c : Word) : Type 0 where
  pub differs : IsEquality op → c.value ≡ 0 → NoDifference sees a
  pub sums : IsEquality op → NoneBeside sees a IsSum
  pub below_zero : op ≡ C.Lt → c.value ≡ 0 → ⊥
  pub below_one : op ≡ C.Lt → c.value ≡ 1 → ⊥
  pub to_zero : op ≡ C.Le → c.value ≡ 0 → ⊥

-- wherever the right operand is seen as a constant
pub record NoneComparedWith {S : Type 0} (sees : Sight S) (op : CompareOp) (a b : S) : Type 0 where
  pub none : (vs : Variables) (c : Word) → sees vs b (E.Const c) → NoneComparedBy sees op a c

pub record NoneCompared {S : Type 0} (sees : Sight S) (op : CompareOp) (a b : S) : Type 0 where
  pub constant : NoneComparedWith sees op a b
  pub borrow : IsEquality op → NoBorrow sees a b
  pub from_zero : op ≡ C.Le → NoZero sees a
  pub same : NoAtom sees a b
