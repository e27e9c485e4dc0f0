-- What is found at a place: a rule of the table, or that none matches.
use Rattle.std.specs.Prelude.{◌⊎◌}
use Rattle.bits_core.specs.declared.word.Word.{Word}
use Rattle.cmeaning.specs.declared.tree.Expr.{Expr}
use Rattle.rules.specs.Letters as L
use Rattle.rules.specs.Table.{Rule}
use Rattle.rule_views.specs.declared.nodes.Pair.{Pair}
use Rattle.rule_views.specs.declared.nodes.Pair.TheVariants as P
use Rattle.rule_views.specs.declared.view.Found.{Found}
use Rattle.rule_views.specs.Sees.{Sight, IsSized, IsConstant, NoConstant}
use Rattle.rule_views.specs.Makes.{Makes}
use Rattle.rule_views.specs.Rows.{RuleOf}
use Rattle.rule_views.specs.Variables.{Variables}

-- the operands may stand in either order
abbrev pub Commutes : Pair → Type 0
Commutes (P.Arithmetic op) = L.Commutes op
Commutes (P.Compare op) = L.IsEquality op
Commutes (P.Overflow op) = L.CommutesFlag op
Commutes p = ⊥

-- a constant on the left changes over
abbrev pub ChangesOver : Pair → Type 0
ChangesOver (P.Arithmetic op) = L.Commutes op
ChangesOver (P.Compare op) = L.IsEquality op
ChangesOver p = ⊥

-- no constant is on the left, or there is one on the right too
abbrev pub NoneOver : {S : Type 0} → Sight S → S → S → Type 0
NoneOver sees a b = NoConstant sees a ⊎ ((d : Word) × IsConstant sees b d)

-- ---- at a place

-- no rule of the table has a left side that is seen here
abbrev pub NoRule : {S : Type 0} → Sight S → S → Type 0
NoRule sees at = (vs : Variables) (l r : Expr) → IsSized vs.widths l → Rule vs.widths l r → sees vs at l → ⊥

-- a rule of this row has a left side that is seen here, and its right side is made
pub record Fires {S : Type 0} (sees : Sight S) (at : S) (f : Found S) (vs : Variables) : Type 0 where
  pub l : Expr
  pub r : Expr
  pub seen : sees vs at l
  pub rule : RuleOf f.row vs.widths l r
  pub makes : Makes (sees vs) f.made r

-- so wherever something is seen here, all of it with operands that agree
pub record Fired {S : Type 0} (sees : Sight S) (at : S) (f : Found S) : Type 0 where
  pub fires : (vs : Variables) (e : Expr) → ((x : Expr) → sees vs at x → IsSized vs.widths x) → sees vs at e
      → Fires sees at f vs
