-- What is found at a node: a rule of the table, and what it makes of the node, or that none matches.
use Rattle.std.specs.Prelude.{◌≡◌, ℕ, List, Option, Some, None}
use Rattle.cmeaning.specs.declared.tree.Expr.{Expr}
use Rattle.cmeaning.specs.declared.tree.Expr.TheVariants as E
use Rattle.rules.specs.Size.{size_of}
use Rattle.rules.specs.Readings.{Reading, IsReading, value_by}
use Rattle.rules.specs.Table.{Rule}
use Rattle.rule_views.specs.declared.view.Arg.{Arg}
use Rattle.rule_views.specs.declared.view.Arg.TheVariants as A
use Rattle.rule_views.specs.declared.view.Made.{Made}
use Rattle.rule_views.specs.declared.view.Made.TheVariants as M
use Rattle.rule_views.specs.declared.view.Found.{Found}
use Rattle.rule_views.specs.Nodes.{single_node, pair_node}
use Rattle.rule_views.specs.Makes.{Makes}
use Rattle.rule_views.specs.Rows.{RuleOf}
use Rattle.rule_views.specs.Variables.{Variables}
use Rattle.rule_graph.specs.declared.node.Node.{Node}
use Rattle.rule_graph.specs.declared.place.Place.{Place}
use Rattle.rule_graph.specs.Graph.{Seen, real, width_at}
use Rattle.rule_graph.specs.Holds.{Holds}
use Rattle.rule_graph.specs.Sees.{IsSeen}

-- ---- what is made

-- an operand, by the number of its node
abbrev pub arg_over : Arg Place → Expr
arg_over (A.Place p) = E.Var p.at
arg_over (A.Const c) = E.Const c

-- one node over the values of its operands
abbrev pub made_over : Made Place → Expr
made_over (M.Is a) = arg_over a
made_over (M.Single s a) = single_node s (arg_over a)
made_over (M.Pair p a b) = pair_node p (arg_over a) (arg_over b)

-- What is made has the width of the node i and, wherever the nodes' equations hold, the value that it has, however
-- divisions read. So its operands are nodes of the graph: no other number has a width.
pub record IsKept (nodes : List Node) (i : ℕ) (made : Made Place) : Type 0 where
  pub size : size_of (width_at nodes) (made_over made) ≡ Some (width_at nodes i)
  pub value : (d : Reading) → IsReading d → (env : ℕ → Option ℕ) → Holds d nodes env
      → (n : ℕ) → env i ≡ Some n → value_by d (width_at nodes) env (made_over made) ≡ Some n

-- ---- at a node, a COPY passed

-- no rule of the table has a left side that is seen
abbrev pub NoRuleAt : List Node → ℕ → Type 0
NoRuleAt nodes i = (l r : Expr) → Rule (width_at nodes) l r → Seen nodes (real nodes i) l → ⊥

-- the variables of a graph's values, whatever they hold
abbrev pub variables_of : List Node → Variables
variables_of nodes = record { widths = width_at nodes; values = None }

-- seen so at a place of a graph
abbrev pub IsSeenAt : Variables → Place → Expr → Type 0
IsSeenAt vs p e = IsSeen p.nodes.now p.at vs e

-- a rule of this row has a left side that is seen, and its right side is made of what is seen
pub record IsInstance (nodes : List Node) (i : ℕ) (f : Found Place) : Type 0 where
  pub l : Expr
  pub r : Expr
  pub seen : Seen nodes (real nodes i) l
  pub rule : RuleOf f.row (width_at nodes) l r
  pub makes : Makes (IsSeenAt (variables_of nodes)) f.made r
