-- What the function of a family of rules answers about a node that is seen: whether a rule of the family matches, in the
-- order in which the family names its operands, and what it makes.
use Rattle.std.specs.Prelude.{ℕ}
use Rattle.bits_core.specs.declared.word.Word.{Word}
use Rattle.cmeaning.specs.declared.tree.Expr.{Expr}
use Rattle.cmeaning.specs.declared.tree.Expr.TheVariants as E
use Rattle.rule_views.specs.declared.nodes.Single.{Single}
use Rattle.rule_views.specs.declared.nodes.Pair.{Pair}
use Rattle.rule_views.specs.declared.view.Made.{Made}
use Rattle.rule_views.specs.Nodes.{single_node, pair_node}
use Rattle.rule_views.specs.Sees.{Sight, IsSized}
use Rattle.rule_views.specs.Makes.{Makes}
use Rattle.rule_views.specs.Variables.{Variables}

-- the rules of a family, by the widths of the variables
abbrev pub Family : Type 1
Family = (ℕ → ℕ) → Expr → Expr → Type 0

-- ---- a node with two operands

-- whatever is seen at the operands agrees as the node asks
abbrev pub AreSized : {S : Type 0} → Sight S → Pair → S → S → Variables → Type 0
AreSized sees p a b vs = (x y : Expr) → sees vs a x → sees vs b y → IsSized vs.widths (pair_node p x y)

-- no rule matches
pub record NoneOfPair {S : Type 0} (family : Family) (sees : Sight S) (p : Pair) (a b : S) : Type 0 where
  pub none : (vs : Variables) (x y r : Expr) → IsSized vs.widths (pair_node p x y)
      → family vs.widths (pair_node p x y) r → sees vs a x → sees vs b y → ⊥

-- a rule has a left side that is seen, and its right side is made
pub record PairFires {S : Type 0} (family : Family) (sees : Sight S) (p : Pair) (a b : S) (made : Made S) (vs : Variables) : Type 0 where
  pub x : Expr
  pub y : Expr
  pub r : Expr
  pub left : sees vs a x
  pub right : sees vs b y
  pub rule : family vs.widths (pair_node p x y) r
  pub makes : Makes (sees vs) made r

-- so wherever the operands are seen as anything
pub record FiredOfPair {S : Type 0} (family : Family) (sees : Sight S) (p : Pair) (a b : S) (made : Made S) : Type 0 where
  pub fires : (vs : Variables) (x y : Expr) → AreSized sees p a b vs
      → sees vs a x → sees vs b y → PairFires family sees p a b made vs

-- ---- a node with one operand

abbrev pub IsSizedOver : {S : Type 0} → Sight S → Single → S → Variables → Type 0
IsSizedOver sees s a vs = (x : Expr) → sees vs a x → IsSized vs.widths (single_node s x)

pub record NoneOfSingle {S : Type 0} (family : Family) (sees : Sight S) (s : Single) (a : S) : Type 0 where
  pub none : (vs : Variables) (x r : Expr) → IsSized vs.widths (single_node s x)
      → family vs.widths (single_node s x) r → sees vs a x → ⊥

pub record SingleFires {S : Type 0} (family : Family) (sees : Sight S) (s : Single) (a : S) (made : Made S) (vs : Variables) : Type 0 where
  pub x : Expr
  pub r : Expr
  pub operand : sees vs a x
  pub rule : family vs.widths (single_node s x) r
  pub makes : Makes (sees vs) made r

pub record FiredOfSingle {S : Type 0} (family : Family) (sees : Sight S) (s : Single) (a : S) (made : Made S) : Type 0 where
  pub fires : (vs : Variables) (x : Expr) → IsSizedOver sees s a vs
      → sees vs a x → SingleFires family sees s a made vs

-- ---- a node whose right operand is the constant c

abbrev pub AreSizedWith : {S : Type 0} → Sight S → Pair → S → Word → Variables → Type 0
AreSizedWith sees p a c vs = (x : Expr) → sees vs a x → IsSized vs.widths (pair_node p x (E.Const c))

pub record WithFires {S : Type 0} (family : Family) (sees : Sight S) (p : Pair) (a : S) (c : Word) (made : Made S) (vs : Variables) : Type 0 where
  pub x : Expr
  pub r : Expr
  pub left : sees vs a x
  pub rule : family vs.widths (pair_node p x (E.Const c)) r
  pub makes : Makes (sees vs) made r

pub record FiredWith {S : Type 0} (family : Family) (sees : Sight S) (p : Pair) (a : S) (c : Word) (made : Made S) : Type 0 where
  pub fires : (vs : Variables) (x : Expr) → AreSizedWith sees p a c vs
      → sees vs a x → WithFires family sees p a c made vs
