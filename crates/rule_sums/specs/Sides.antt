-- No left side of a rule is seen.
use Rattle.std.specs.Prelude.{◌≡◌, ℕ, ◌-◌, ◌≤◌, ◌*◌}
use Rattle.bits_core.specs.declared.word.Word.{Word}
use Rattle.bits_core.specs.Value.{limit}
use Rattle.cmeaning.specs.declared.tree.UnaryOp.{UnaryOp}
use Rattle.cmeaning.specs.declared.tree.UnaryOp.TheVariants.{Neg}
use Rattle.cmeaning.specs.declared.tree.ArithmeticOp.{ArithmeticOp}
use Rattle.cmeaning.specs.declared.tree.ArithmeticOp.TheVariants as A
use Rattle.cmeaning.specs.declared.tree.DivisionOp.TheVariants as D
use Rattle.cmeaning.specs.declared.tree.SignedDivisionOp.TheVariants as T
use Rattle.cmeaning.specs.declared.tree.ShiftOp.{ShiftOp}
use Rattle.cmeaning.specs.declared.tree.ShiftOp.TheVariants as H
use Rattle.cmeaning.specs.declared.tree.Expr.{Expr}
use Rattle.cmeaning.specs.declared.tree.Expr.TheVariants as E
use Rattle.rules.specs.Letters.{IsWide, Folds, KeepsAtZero, FallsAtZero, Cancels, RepeatsItself, IsBitwise}
use Rattle.rule_views.specs.declared.nodes.Pair.{Pair}
use Rattle.rule_views.specs.declared.nodes.Pair.TheVariants as P
use Rattle.rule_views.specs.Sees.{Sight, NoAtom}
use Rattle.rule_views.specs.Beside.{IsSum, NoneBeside}
use Rattle.rule_views.specs.Variables.{Variables}

-- whatever is seen has more bits than c
abbrev pub NotPassed : {S : Type 0} → Sight S → S → Word → Type 0
NotPassed sees a c = (vs : Variables) (x : Expr) (w : ℕ) → sees vs a x → IsWide vs.widths x w → 8 * w ≤ c.value → ⊥

-- no rule of shifts by c
pub record NoneShifted {S : Type 0} (sees : Sight S) (op : ShiftOp) (a : S) (c : Word) : Type 0 where
  pub nothing : c.value ≡ 0 → ⊥
  pub bits : (op ≡ H.Sar → ⊥) → NotPassed sees a c
  pub sign : op ≡ H.Sar → NotPassed sees a c

-- an operation by this constant leaves its left operand as it is: x * 1, x & ones, x / 1
abbrev pub Leaves : Pair → Word → Type 0
Leaves (P.Arithmetic A.Mul) c = c.value ≡ 1
Leaves (P.Arithmetic A.And) c = c.value ≡ limit c.width.bytes - 1
Leaves (P.Division D.Div) c = c.value ≡ 1
Leaves (P.SignedDivision T.SDiv) c = c.value ≡ 1
Leaves p c = ⊥

abbrev pub NoUnaryOf : {S : Type 0} → Sight S → UnaryOp → S → Type 0
NoUnaryOf sees op a = (vs : Variables) (x : Expr) → sees vs a (E.Unary op x) → ⊥

-- (x inner c) op d: x to e
abbrev pub Nests : ArithmeticOp → ArithmeticOp → Word → Word → ArithmeticOp → Word → Type 0
Nests A.Add A.Add c d to e = (to ≡ A.Add) × Folds A.Add c d e
Nests A.Sub A.Sub c d to e = (to ≡ A.Sub) × Folds A.Add c d e
Nests A.Add A.Sub c d to e = (to ≡ A.Add) × Folds A.Sub c d e
Nests A.Sub A.Add c d to e = (to ≡ A.Add) × Folds A.Sub d c e
Nests inner op c d to e = Unit {0}

abbrev pub AreOpposite : ArithmeticOp → ArithmeticOp → Type 0
AreOpposite A.Add to = to ≡ A.Sub
AreOpposite A.Sub to = to ≡ A.Add
AreOpposite op to = Unit {0}

-- ---- of all rules whose right operand is a constant

pub record NoneByOp {S : Type 0} (sees : Sight S) (op : ArithmeticOp) (a : S) (c : Word) : Type 0 where
  pub nothing : KeepsAtZero op → c.value ≡ 0 → ⊥
  pub falls : FallsAtZero op → c.value ≡ 0 → ⊥
  pub sums : IsSum op → NoneBeside sees a IsSum
  pub bits : IsBitwise op → NoneBeside sees a (λ o. o ≡ op)

pub record NoneBy {S : Type 0} (sees : Sight S) (p : Pair) (a : S) (c : Word) : Type 0 where
  pub leaves : Leaves p c → ⊥
  pub by_op : (op : ArithmeticOp) → p ≡ P.Arithmetic op → NoneByOp sees op a c

-- wherever the right operand is seen as a constant
pub record NoneByConstant {S : Type 0} (sees : Sight S) (p : Pair) (a b : S) : Type 0 where
  pub none : (vs : Variables) (c : Word) → sees vs b (E.Const c) → NoneBy sees p a c

-- ---- of all others with two operands

pub record NoneOfTwo {S : Type 0} (sees : Sight S) (op : ArithmeticOp) (a b : S) : Type 0 where
  pub cancels : Cancels op → NoAtom sees a b
  pub repeats : RepeatsItself op → NoAtom sees a b
  pub opposite : IsSum op → NoUnaryOf sees Neg b
