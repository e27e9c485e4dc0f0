-- The values of a graph's nodes where each node's equation holds.
use Rattle.std.specs.Prelude.{◌≡◌, ℕ, List, Option, Some}
use Rattle.bits_core.specs.declared.word.Word.{Word}
use Rattle.cmeaning.specs.declared.tree.Expr.{Expr}
use Rattle.cmeaning.specs.declared.tree.Expr.TheVariants as E
use Rattle.rules.specs.Size.{AreWords, size_of}
use Rattle.rules.specs.Readings.{Reading, value_by}
use Rattle.rule_views.specs.declared.nodes.Single.{Single}
use Rattle.rule_views.specs.declared.nodes.Pair.{Pair}
use Rattle.rule_views.specs.Nodes.{single_node, pair_node}
use Rattle.rule_graph.specs.declared.node.Op.TheVariants as O
use Rattle.rule_graph.specs.declared.node.Node.{Node}
use Rattle.rule_graph.specs.Graph.{op_at, width_at}

-- however divisions read
pub record Holds (d : Reading) (nodes : List Node) (env : ℕ → Option ℕ) : Type 0 where
  pub words : AreWords (width_at nodes) env
  pub copy : (i j : ℕ) → op_at nodes i ≡ Some (O.Copy j) → env i ≡ env j
  pub const : (i : ℕ) (c : Word) → op_at nodes i ≡ Some (O.Const c) → env i ≡ Some c.value
  pub single : (i : ℕ) (s : Single) (a : ℕ) → op_at nodes i ≡ Some (O.Single s a)
      → env i ≡ value_by d (width_at nodes) env (single_node s (E.Var a))
  pub pair : (i : ℕ) (p : Pair) (a b : ℕ) → op_at nodes i ≡ Some (O.Pair p a b)
      → env i ≡ value_by d (width_at nodes) env (pair_node p (E.Var a) (E.Var b))

-- an expression reads as the value of a node: it has its width and its value
pub record ReadsAs (d : Reading) (nodes : List Node) (env : ℕ → Option ℕ) (i : ℕ) (e : Expr) : Type 0 where
  pub size : size_of (width_at nodes) e ≡ Some (width_at nodes i)
  pub value : value_by d (width_at nodes) env e ≡ env i
