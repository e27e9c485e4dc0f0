-- Two letters named twice: no left side of a rule is seen, and what is seen where one is.
use Rattle.std.specs.Prelude.{◌≡◌, ◌⊎◌}
use Rattle.bits_core.specs.declared.word.Word.{Word}
use Rattle.cmeaning.specs.declared.tree.ArithmeticOp.{ArithmeticOp}
use Rattle.cmeaning.specs.declared.tree.ArithmeticOp.TheVariants as O
use Rattle.cmeaning.specs.declared.tree.CompareOp.{CompareOp}
use Rattle.cmeaning.specs.declared.tree.CompareOp.TheVariants as C
use Rattle.cmeaning.specs.declared.tree.SignedCompareOp.TheVariants as I
use Rattle.cmeaning.specs.declared.tree.OverflowOp.TheVariants as V
use Rattle.cmeaning.specs.declared.tree.Expr.{Expr}
use Rattle.cmeaning.specs.declared.tree.Expr.TheVariants as E
use Rattle.rules.specs.Letters.{IsAtom}
use Rattle.rule_views.specs.declared.nodes.Pair.{Pair}
use Rattle.rule_views.specs.declared.nodes.Pair.TheVariants as P
use Rattle.rule_views.specs.declared.view.Made.{Made}
use Rattle.rule_views.specs.Nodes.{pair_node}
use Rattle.rule_views.specs.Makes.{Makes}
use Rattle.rule_views.specs.Sees.{Sight, IsSame}
use Rattle.rule_views.specs.Variables.{Variables}

-- ---- the sign of a difference

-- SLt(x - y, c)
abbrev pub sign : Expr → Expr → Word → Expr
sign x y c = E.SignedCompare I.SLt (E.Arithmetic O.Sub x y) (E.Const c)

abbrev pub NoSign : {S : Type 0} → Sight S → S → Type 0
NoSign sees at = (vs : Variables) (x y : Expr) (c : Word) → c.value ≡ 0 → sees vs at (sign x y c) → ⊥

-- SLt(x - y, c) is seen, with a c of 0
pub record IsSign {S : Type 0} (sees : Sight S) (at x y : S) (c : Word) : Type 0 where
  pub nothing : c.value ≡ 0
  pub only : (vs : Variables) (s t : Expr) (d : Word) → sees vs at (sign s t d) → sees vs x s × sees vs y t
  pub joins : (vs : Variables) (e s t : Expr) → sees vs at e → sees vs x s → sees vs y t → sees vs at (sign s t c)
  pub operands : (vs : Variables) (e : Expr) → sees vs at e → (s : Expr) × ((t : Expr) × (sees vs x s × sees vs y t))

-- no sign of a difference beside the borrow of it
abbrev pub NoBorrow : {S : Type 0} → Sight S → S → S → Type 0
NoBorrow sees a b = (vs : Variables) (x y : Expr) (c : Word) → IsAtom x → IsAtom y → c.value ≡ 0
    → sees vs a (sign x y c) → sees vs b (E.Overflow V.SBorrow x y) → ⊥

-- ---- an equality beside an order

-- Eq and Lt to Le, Ne and Le to Lt, and so of signed words
abbrev pub Joins : CompareOp → Pair → Pair → Type 0
Joins C.Eq (P.Compare C.Lt) q = q ≡ P.Compare C.Le
Joins C.Ne (P.Compare C.Le) q = q ≡ P.Compare C.Lt
Joins C.Eq (P.SignedCompare I.SLt) q = q ≡ P.SignedCompare I.SLe
Joins C.Ne (P.SignedCompare I.SLe) q = q ≡ P.SignedCompare I.SLt
Joins equality order q = ⊥

abbrev pub equal : CompareOp
equal = C.Eq

abbrev pub other : CompareOp
other = C.Ne

-- one letter at x and u, and one at y and v
abbrev pub AreTwo : {S : Type 0} → Sight S → S → S → S → S → Type 0
AreTwo sees x y u v = IsSame sees x u × IsSame sees y v

-- wherever they are seen so, P
abbrev pub NoneTwo : {S : Type 0} → Sight S → S → S → S → S → Type 0 → Type 0
NoneTwo sees x y u v P = (vs : Variables) (s t : Expr) → IsAtom s → IsAtom t → sees vs u s → sees vs v t
    → sees vs x s → sees vs y t → P

-- the same two letters at x and y and at u and v
abbrev pub AreSame : {S : Type 0} → Sight S → S → S → S → S → Type 0
AreSame sees x y u v = AreTwo sees x y u v ⊎ AreTwo sees x y v u

-- wherever they are seen so, P
abbrev pub NoneSame : {S : Type 0} → Sight S → S → S → S → S → Type 0 → Type 0
NoneSame sees x y u v P = (vs : Variables) (s t : Expr) → IsAtom s → IsAtom t → sees vs u s → sees vs v t
    → (sees vs x s × sees vs y t) ⊎ (sees vs x t × sees vs y s) → P

-- an equality of x and y in either order
abbrev pub Either : CompareOp → Expr → Expr → (Expr → Type 0) → Type 0
Either equality x y is = is (E.Compare equality x y) ⊎ is (E.Compare equality y x)

abbrev pub NoneJoined : {S : Type 0} → Sight S → CompareOp → S → S → Type 0
NoneJoined sees equality a b = (vs : Variables) (order to : Pair) (x y : Expr) → Joins equality order to
    → IsAtom x → IsAtom y → Either equality x y (sees vs a) → sees vs b (pair_node order x y) → ⊥

pub record JoinedSeen {S : Type 0} (sees : Sight S) (equality : CompareOp) (a b : S) (made : Made S) (vs : Variables) : Type 0 where
  pub order : Pair
  pub to : Pair
  pub x : Expr
  pub y : Expr
  pub joins : Joins equality order to
  pub one : IsAtom x
  pub two : IsAtom y
  pub left : Either equality x y (sees vs a)
  pub right : sees vs b (pair_node order x y)
  pub makes : Makes (sees vs) made (pair_node to x y)

pub record IsJoined {S : Type 0} (sees : Sight S) (equality : CompareOp) (a b : S) (made : Made S) : Type 0 where
  pub seen : (vs : Variables) (e f : Expr) → sees vs a e → sees vs b f → JoinedSeen sees equality a b made vs

pub record NoneOfTwo {S : Type 0} (sees : Sight S) (op : ArithmeticOp) (a b : S) : Type 0 where
  pub less : op ≡ O.Or → NoneJoined sees equal a b
  pub at_most : op ≡ O.And → NoneJoined sees other a b
