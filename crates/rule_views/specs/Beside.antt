-- A letter beside a constant.
use Rattle.std.specs.Prelude.{◌≡◌}
use Rattle.bits_core.specs.declared.word.Word.{Word}
use Rattle.cmeaning.specs.declared.tree.UnaryOp.{UnaryOp}
use Rattle.cmeaning.specs.declared.tree.ArithmeticOp.{ArithmeticOp}
use Rattle.cmeaning.specs.declared.tree.ArithmeticOp.TheVariants as A
use Rattle.cmeaning.specs.declared.tree.Expr.{Expr}
use Rattle.cmeaning.specs.declared.tree.Expr.TheVariants as E
use Rattle.rules.specs.Letters.{Commutes}
use Rattle.rule_views.specs.Sees.{Sight}
use Rattle.rule_views.specs.Variables.{Variables}

-- x op c, or c op x where the operation commutes
pub data ConstOn : ArithmeticOp → Expr → Word → Expr → Type 0 where
  OnRight : (op : ArithmeticOp) (x : Expr) (c : Word) → ConstOn op x c (E.Arithmetic op x (E.Const c))
  OnLeft : (op : ArithmeticOp) (x : Expr) (c : Word) → Commutes op → ConstOn op x c (E.Arithmetic op (E.Const c) x)

abbrev pub NoBeside : {S : Type 0} → Sight S → S → Type 0
NoBeside sees at = (vs : Variables) (op : ArithmeticOp) (x : Expr) (c : Word) (l : Expr)
    → ConstOn op x c l → sees vs at l → ⊥

-- what is seen, with what is seen of its letter
pub record BesideSeen {S : Type 0} (sees : Sight S) (at : S) (op : ArithmeticOp) (a : S) (c : Word) (vs : Variables) : Type 0 where
  pub x : Expr
  pub l : Expr
  pub on : ConstOn op x c l
  pub letter : sees vs a x
  pub seen : sees vs at l

pub record IsBeside {S : Type 0} (sees : Sight S) (at : S) (op : ArithmeticOp) (a : S) (c : Word) : Type 0 where
  pub only : (vs : Variables) (o : ArithmeticOp) (x : Expr) (d : Word) (l : Expr) → ConstOn o x d l → sees vs at l → o ≡ op
  pub seen : (vs : Variables) (e : Expr) → sees vs at e → BesideSeen sees at op a c vs

-- no node of these operations is seen
abbrev pub NoUnary : {S : Type 0} → Sight S → S → Type 0
NoUnary sees at = (vs : Variables) (op : UnaryOp) (x : Expr) → sees vs at (E.Unary op x) → ⊥

abbrev pub NoArithmetic : {S : Type 0} → Sight S → S → Type 0
NoArithmetic sees at = (vs : Variables) (op : ArithmeticOp) (x y : Expr) → sees vs at (E.Arithmetic op x y) → ⊥

-- Add and Sub
abbrev pub IsSum : ArithmeticOp → Type 0
IsSum A.Add = Unit {0}
IsSum A.Sub = Unit {0}
IsSum op = ⊥

-- no letter stands beside a constant by one of these operations
abbrev pub NoneBeside : {S : Type 0} → Sight S → S → (ArithmeticOp → Type 0) → Type 0
NoneBeside sees a is = (vs : Variables) (op : ArithmeticOp) (x : Expr) (c : Word) (l : Expr)
    → is op → ConstOn op x c l → sees vs a l → ⊥
