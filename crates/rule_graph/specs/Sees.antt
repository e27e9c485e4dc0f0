-- What is seen at a node, by the variables.
use Rattle.std.specs.Prelude.{◌≡◌, ℕ, List, Option, Some, None}
use Rattle.cmeaning.specs.declared.tree.Expr.{Expr}
use Rattle.rules.specs.Readings.{IsReading}
use Rattle.rule_views.specs.Variables.{Values, Variables}
use Rattle.rule_graph.specs.declared.node.Node.{Node}
use Rattle.rule_graph.specs.Graph.{Seen, width_at}
use Rattle.rule_graph.specs.Holds.{Holds}

-- where values are given, each node's equation holds of them
abbrev pub Obey : List Node → Option Values → Type 0
Obey nodes None = Unit {0}
Obey nodes (Some v) = IsReading v.reading × Holds v.reading nodes v.env

-- The variables are the nodes' values: each is as wide as the node of its number.
pub record AreOf (nodes : List Node) (vs : Variables) : Type 0 where
  pub widths : vs.widths ≡ width_at nodes
  pub values : Obey nodes vs.values

-- at a node i, which is no COPY
pub record IsSeen (nodes : List Node) (i : ℕ) (vs : Variables) (e : Expr) : Type 0 where
  pub variables : AreOf nodes vs
  pub seen : Seen nodes i e
