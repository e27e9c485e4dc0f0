-- The needs of all nodes of an expression together, and a rewrite anywhere in it.
use Rattle.std.specs.Prelude.{◌≡◌, ℕ, ◌+◌, ◌<◌, ◌≤◌, Some}
use Rattle.cmeaning.specs.declared.tree.Expr.{Expr, fold-Expr, roll-Expr, map-Expr}
use Rattle.cmeaning.specs.declared.tree.Expr.TheOpen.{Expr-F}
use Rattle.rules.specs.Size.{size_of}
use Rattle.rules.specs.Table.{Rule}
use Rattle.rule_views.specs.declared.nodes.Single.{Single}
use Rattle.rule_views.specs.declared.nodes.Pair.{Pair}
use Rattle.rule_views.specs.Nodes.{single_node, pair_node}
use Rattle.rule_measure.specs.Measure.{height, need}

-- ---- the total

-- of the operands
abbrev pub sum_in : Expr-F ℕ → ℕ
sum_in (Expr-F.Const c) = 0
sum_in (Expr-F.Var v) = 0
sum_in (Expr-F.Unary op a) = a
sum_in (Expr-F.Arithmetic op a b) = a + b
sum_in (Expr-F.Division op a b) = a + b
sum_in (Expr-F.SignedDivision op a b) = a + b
sum_in (Expr-F.Shift op a b) = a + b
sum_in (Expr-F.Compare op a b) = a + b
sum_in (Expr-F.SignedCompare op a b) = a + b
sum_in (Expr-F.Extend op w a) = a
sum_in (Expr-F.Part k w a) = a
sum_in (Expr-F.Concat a b) = a + b
sum_in (Expr-F.Overflow op a b) = a + b
sum_in (Expr-F.Count op a) = a

-- an expression beside its total
pub record Weighed : Type 0 where
  pub tree : Expr
  pub weight : ℕ

abbrev pub whole : Expr-F Weighed → Expr
whole l = roll-Expr (map-Expr Weighed Expr (λ w. w.tree) l)

abbrev pub total_step : (ws ls : ℕ → ℕ) → Expr-F Weighed → Weighed
total_step ws ls l = record {
  tree = whole l;
  weight = need ws ls (whole l) + sum_in (map-Expr Weighed ℕ (λ w. w.weight) l);
}

-- the needs of all nodes of an expression, by the widths and the levels of the variables
unfoldable pub total : (ws ls : ℕ → ℕ) → Expr → ℕ
total ws ls e = (fold-Expr Weighed (total_step ws ls) e).weight

-- ---- one edit

-- a rule of the table at one node of an expression
pub data Rewrites (ws : ℕ → ℕ) : Expr → Expr → Type 0 where
  Here : (l r : Expr) → Rule ws l r → Rewrites ws l r
  Under : (s : Single) (x y : Expr) → Rewrites ws x y → Rewrites ws (single_node s x) (single_node s y)
  OnLeft : (p : Pair) (x y z : Expr) → Rewrites ws x y → Rewrites ws (pair_node p x z) (pair_node p y z)
  OnRight : (p : Pair) (x y z : Expr) → Rewrites ws x y → Rewrites ws (pair_node p z x) (pair_node p z y)

-- what every edit does, whatever the levels are
pub record Lessens (ws ls : ℕ → ℕ) (x y : Expr) : Type 0 where
  pub less : total ws ls y < total ws ls x
  pub no_higher : height ls y ≤ height ls x
  pub size : (w : ℕ) → size_of ws x ≡ Some w → size_of ws y ≡ Some w

-- ---- edits one after the other

pub data Edits (ws : ℕ → ℕ) : ℕ → Expr → Expr → Type 0 where
  NoEdit : (n : ℕ) (x : Expr) → n ≡ 0 → Edits ws n x x
  OneMore : (n k : ℕ) (x y z : Expr) → n ≡ k + 1 → Rewrites ws x y → Edits ws k y z → Edits ws n x z
