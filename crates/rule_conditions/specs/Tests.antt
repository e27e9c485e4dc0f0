-- What is 0 or 1, compared with 0 or 1: no left side of a rule is seen, and what a negation is.
use Rattle.std.specs.Prelude.{◌≡◌}
use Rattle.bits_core.specs.declared.word.Word.{Word}
use Rattle.cmeaning.specs.declared.tree.ArithmeticOp.TheVariants as O
use Rattle.cmeaning.specs.declared.tree.CompareOp.{CompareOp}
use Rattle.cmeaning.specs.declared.tree.CompareOp.TheVariants as C
use Rattle.cmeaning.specs.declared.tree.SignedCompareOp.{SignedCompareOp}
use Rattle.cmeaning.specs.declared.tree.SignedCompareOp.TheVariants as I
use Rattle.cmeaning.specs.declared.tree.Expr.{Expr}
use Rattle.rules.specs.Letters.{Negated, IsTest}
use Rattle.rule_views.specs.declared.nodes.Pair.{Pair}
use Rattle.rule_views.specs.declared.nodes.Pair.TheVariants as P
use Rattle.rule_views.specs.declared.view.Arg.TheVariants as A
use Rattle.rule_views.specs.declared.view.Made.{Made}
use Rattle.rule_views.specs.declared.view.Made.TheVariants as M
use Rattle.rule_views.specs.Sees.{Sight}
use Rattle.rule_views.specs.Makes.{Makes}
use Rattle.rule_views.specs.Variables.{Variables}

-- comparison ^ 1, comparison == 0, comparison != 1
abbrev pub Turns : Pair → Word → Type 0
Turns (P.Arithmetic O.Xor) c = c.value ≡ 1
Turns (P.Compare C.Eq) c = c.value ≡ 0
Turns (P.Compare C.Ne) c = c.value ≡ 1
Turns p c = ⊥

-- b != 0, b == 1
abbrev pub Repeats : Pair → Word → Type 0
Repeats (P.Compare C.Ne) c = c.value ≡ 0
Repeats (P.Compare C.Eq) c = c.value ≡ 1
Repeats p c = ⊥

-- the negation of a comparison of x and y
abbrev pub compare_negated : {S : Type 0} → CompareOp → S → S → Made S
compare_negated C.Eq x y = M.Pair (P.Compare C.Ne) (A.Place x) (A.Place y)
compare_negated C.Ne x y = M.Pair (P.Compare C.Eq) (A.Place x) (A.Place y)
compare_negated C.Lt x y = M.Pair (P.Compare C.Le) (A.Place y) (A.Place x)
compare_negated C.Le x y = M.Pair (P.Compare C.Lt) (A.Place y) (A.Place x)

abbrev pub signed_negated : {S : Type 0} → SignedCompareOp → S → S → Made S
signed_negated I.SLt x y = M.Pair (P.SignedCompare I.SLe) (A.Place y) (A.Place x)
signed_negated I.SLe x y = M.Pair (P.SignedCompare I.SLt) (A.Place y) (A.Place x)

abbrev pub NoComparison : {S : Type 0} → Sight S → S → Type 0
NoComparison sees at = (vs : Variables) (k n : Expr) → Negated k n → sees vs at k → ⊥

-- a comparison is seen, and its negation made
pub record NegationSeen {S : Type 0} (sees : Sight S) (at : S) (made : Made S) (vs : Variables) : Type 0 where
  pub k : Expr
  pub n : Expr
  pub negated : Negated k n
  pub seen : sees vs at k
  pub makes : Makes (sees vs) made n

pub record IsNegation {S : Type 0} (sees : Sight S) (at : S) (made : Made S) : Type 0 where
  pub seen : (vs : Variables) (e : Expr) → sees vs at e → NegationSeen sees at made vs

abbrev pub NoTest : {S : Type 0} → Sight S → S → Type 0
NoTest sees at = (vs : Variables) (b : Expr) → IsTest b → sees vs at b → ⊥

-- a test is seen
pub record IsTestAt {S : Type 0} (sees : Sight S) (at : S) : Type 0 where
  pub seen : (vs : Variables) (e : Expr) → sees vs at e → (b : Expr) × (IsTest b × sees vs at b)

pub record NoneDecided {S : Type 0} (sees : Sight S) (p : Pair) (a : S) (c : Word) : Type 0 where
  pub turns : Turns p c → NoComparison sees a
  pub repeats : Repeats p c → NoTest sees a
