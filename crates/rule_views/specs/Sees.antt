-- What an answer about a place says, by the expressions that may stand for what is there. A place always may be seen as
-- a variable, where its instance has one for it; else what is seen is the node that the answer names.
use Rattle.std.specs.Prelude.{◌≡◌, ℕ, Some, ◌⊎◌}
use Rattle.bits_core.specs.declared.word.Word.{Word}
use Rattle.cmeaning.specs.declared.tree.Expr.{Expr}
use Rattle.cmeaning.specs.declared.tree.Expr.TheVariants as E
use Rattle.rules.specs.Size.{size_of}
use Rattle.rules.specs.Letters.{IsAtom}
use Rattle.rule_views.specs.declared.nodes.Single.{Single}
use Rattle.rule_views.specs.declared.nodes.Pair.{Pair}
use Rattle.rule_views.specs.Nodes.{single_node, pair_node}
use Rattle.rule_views.specs.Variables.{Variables}

-- by the variables, what may be seen at places of a type
abbrev pub Sight : Type 0 → Type 1
Sight S = Variables → S → Expr → Type 0

abbrev pub IsSized : (ℕ → ℕ) → Expr → Type 0
IsSized ws e = (w : ℕ) × (size_of ws e ≡ Some w)

abbrev pub IsVariable : Expr → Type 0
IsVariable e = (v : ℕ) × (e ≡ E.Var v)

-- of w bytes, whatever is seen
abbrev pub IsWideAt : {S : Type 0} → Sight S → S → ℕ → Type 0
IsWideAt sees at w = (vs : Variables) (e : Expr) → sees vs at e → size_of vs.widths e ≡ Some w

-- one variable or one constant is seen at both
abbrev pub IsSame : {S : Type 0} → Sight S → S → S → Type 0
IsSame sees a b = (e : Expr)
    × (IsAtom e × ((vs : Variables) (x y : Expr) → sees vs a x → sees vs b y → sees vs a e × sees vs b e))

-- not one variable or constant at both
abbrev pub NoAtom : {S : Type 0} → Sight S → S → S → Type 0
NoAtom sees a b = (vs : Variables) (x : Expr) → IsAtom x → sees vs a x → sees vs b x → ⊥

-- ---- a constant

abbrev pub NoConstant : {S : Type 0} → Sight S → S → Type 0
NoConstant sees at = (vs : Variables) (c : Word) → sees vs at (E.Const c) → ⊥

abbrev pub NoZero : {S : Type 0} → Sight S → S → Type 0
NoZero sees at = (vs : Variables) (c : Word) → c.value ≡ 0 → sees vs at (E.Const c) → ⊥

pub record IsConstant {S : Type 0} (sees : Sight S) (at : S) (c : Word) : Type 0 where
  pub only : (vs : Variables) (e : Expr) → sees vs at e → IsVariable e ⊎ (e ≡ E.Const c)
  pub seen : (vs : Variables) (e : Expr) → sees vs at e → sees vs at (E.Const c)

-- ---- a node with one operand

abbrev pub NoSingle : {S : Type 0} → Sight S → S → Type 0
NoSingle sees at = (vs : Variables) (s : Single) (x : Expr) → sees vs at (single_node s x) → ⊥

-- e is the node s over what is seen at a
abbrev pub IsOver : {S : Type 0} → Sight S → Single → S → Variables → Expr → Type 0
IsOver sees s a vs e = (x : Expr) × ((e ≡ single_node s x) × sees vs a x)

pub record IsSingle {S : Type 0} (sees : Sight S) (at : S) (s : Single) (a : S) : Type 0 where
  pub only : (vs : Variables) (e : Expr) → sees vs at e → IsVariable e ⊎ IsOver sees s a vs e
  pub joins : (vs : Variables) (e x : Expr) → sees vs at e → sees vs a x → sees vs at (single_node s x)
  pub operand : (vs : Variables) (e : Expr) → sees vs at e → (x : Expr) × sees vs a x

-- ---- a node with two operands

abbrev pub NoPair : {S : Type 0} → Sight S → S → Type 0
NoPair sees at = (vs : Variables) (p : Pair) (x y : Expr) → sees vs at (pair_node p x y) → ⊥

abbrev pub NoNode : {S : Type 0} → Sight S → S → Pair → Type 0
NoNode sees at p = (vs : Variables) (x y : Expr) → sees vs at (pair_node p x y) → ⊥

-- e is the node p over what is seen at a and at b
pub record AreUnder {S : Type 0} (sees : Sight S) (p : Pair) (a b : S) (vs : Variables) (e : Expr) : Type 0 where
  pub x : Expr
  pub y : Expr
  pub is : e ≡ pair_node p x y
  pub left : sees vs a x
  pub right : sees vs b y

pub record IsPair {S : Type 0} (sees : Sight S) (at : S) (p : Pair) (a b : S) : Type 0 where
  pub only : (vs : Variables) (e : Expr) → sees vs at e → IsVariable e ⊎ AreUnder sees p a b vs e
  pub joins : (vs : Variables) (e x y : Expr) → sees vs at e → sees vs a x → sees vs b y → sees vs at (pair_node p x y)
  pub operands : (vs : Variables) (e : Expr) → sees vs at e → (x : Expr) × ((y : Expr) × (sees vs a x × sees vs b y))
