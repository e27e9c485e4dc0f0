-- Parts and extensions: no left side of a rule is seen, and what a piece is.
use Rattle.std.specs.Prelude.{◌≡◌, ◌⊎◌, ℕ, ◌+◌, ◌≤◌}
use Rattle.bits_core.specs.declared.word.Width.{Width}
use Rattle.cmeaning.specs.declared.tree.ExtendOp.{ExtendOp}
use Rattle.cmeaning.specs.declared.tree.ExtendOp.TheVariants as X
use Rattle.cmeaning.specs.declared.tree.Expr.{Expr}
use Rattle.cmeaning.specs.declared.tree.Expr.TheVariants as E
use Rattle.rules.specs.Letters.{IsWide}
use Rattle.rule_views.specs.declared.nodes.Single.TheVariants as S
use Rattle.rule_views.specs.declared.view.Arg.TheVariants as A
use Rattle.rule_views.specs.declared.view.Made.{Made}
use Rattle.rule_views.specs.declared.view.Made.TheVariants as M
use Rattle.rule_views.specs.Sees.{Sight, IsWideAt}
use Rattle.rule_views.specs.Variables.{Variables}

abbrev pub NoPart : {T : Type 0} → Sight T → T → Type 0
NoPart sees at = (vs : Variables) (k : ℕ) (w : Width) (x : Expr) → sees vs at (E.Part k w x) → ⊥

abbrev pub NoExtend : {T : Type 0} → Sight T → T → Type 0
NoExtend sees at = (vs : Variables) (op : ExtendOp) (w : Width) (x : Expr) → sees vs at (E.Extend op w x) → ⊥

-- ---- a piece

-- x itself, which is w bytes wide
abbrev pub IsWhole : {T : Type 0} → Sight T → T → ℕ → Width → Made T → Type 0
IsWhole sees x k w made = (made ≡ M.Is (A.Place x)) × (k ≡ 0) × IsWideAt sees x w.bytes

-- a part of x that is not the whole of it
abbrev pub IsLess : {T : Type 0} → Sight T → T → ℕ → Width → Made T → Type 0
IsLess sees x k w made = (made ≡ M.Single (S.Part k w) (A.Place x))
    × ((vs : Variables) (e : Expr) → sees vs x e → k ≡ 0 → IsWide vs.widths e w.bytes → ⊥)

-- Sub(x, k, w), or x where that is the whole of it
abbrev pub IsPiece : {T : Type 0} → Sight T → T → ℕ → Width → Made T → Type 0
IsPiece sees x k w made = IsWhole sees x k w made ⊎ IsLess sees x k w made

-- ---- of the part of w bytes past k

-- it lies neither wholly in the low word nor wholly in the high one
abbrev pub NoneOfConcat : {T : Type 0} → Sight T → T → ℕ → Width → Type 0
NoneOfConcat sees a k w = (vs : Variables) (x y : Expr) (u : ℕ) → sees vs a (E.Concat x y) → IsWide vs.widths y u
    → (k + w.bytes ≤ u → ⊥) × (u ≤ k → ⊥)

-- it begins within the extended word, past its first byte, and goes beyond it
abbrev pub NoneOfZext : {T : Type 0} → Sight T → T → ℕ → Width → Type 0
NoneOfZext sees a k w = (vs : Variables) (x : Expr) (v : Width) (u : ℕ) → sees vs a (E.Extend X.Zext v x) → IsWide vs.widths x u
    → (k + w.bytes ≤ u → ⊥) × (u ≤ k → ⊥) × (k ≡ 0 → ⊥)

pub record NoneOfPart {T : Type 0} (sees : Sight T) (a : T) (k : ℕ) (w : Width) : Type 0 where
  pub concat : NoneOfConcat sees a k w
  pub zext : NoneOfZext sees a k w
  pub part : NoPart sees a

-- ---- of an extension

-- an extension whose extension is one
abbrev pub Extends : ExtendOp → ExtendOp → Type 0
Extends X.Zext X.Zext = Unit {0}
Extends X.Sext X.Zext = Unit {0}
Extends X.Sext X.Sext = Unit {0}
Extends X.Zext X.Sext = ⊥

abbrev pub NoneInside : {T : Type 0} → Sight T → ExtendOp → T → Type 0
NoneInside sees op a = (vs : Variables) (inner : ExtendOp) (v : Width) (x : Expr) → Extends op inner
    → sees vs a (E.Extend inner v x) → ⊥
