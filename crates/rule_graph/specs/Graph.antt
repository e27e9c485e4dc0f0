-- What a node of a graph may be seen as: its value, a constant, or its op over what its inputs are seen as. A COPY among
-- the inputs is passed.
use Rattle.std.specs.Prelude.{◌≡◌, ℕ, ◌<◌, List, length, slice_get, Option, Some, None}
use Rattle.bits_core.specs.declared.word.Word.{Word}
use Rattle.cmeaning.specs.declared.tree.Expr.{Expr}
use Rattle.cmeaning.specs.declared.tree.Expr.TheVariants as E
use Rattle.rules.specs.Size.{size_of}
use Rattle.rule_views.specs.declared.nodes.Single.{Single}
use Rattle.rule_views.specs.declared.nodes.Pair.{Pair}
use Rattle.rule_views.specs.Nodes.{single_node, pair_node}
use Rattle.rule_graph.specs.declared.node.Op.{Op}
use Rattle.rule_graph.specs.declared.node.Op.TheVariants as O
use Rattle.rule_graph.specs.declared.node.Node.{Node}

abbrev pub op_in : Option Node → Option Op
op_in None = None
op_in (Some n) = Some n.op

-- the op of a node, where there is one
abbrev pub op_at : List Node → ℕ → Option Op
op_at nodes i = op_in (slice_get nodes i)

abbrev pub passed : Option Op → ℕ → ℕ
passed (Some (O.Copy j)) i = j
passed o i = i

-- the node that a number stands for, a COPY passed
abbrev pub real : List Node → ℕ → ℕ
real nodes i = passed (op_at nodes i) i

abbrev pub width_in : Option Node → ℕ
width_in None = 0
width_in (Some n) = n.width.bytes

-- the widths of the values, 0 where there is no node
abbrev pub width_at : List Node → ℕ → ℕ
width_at nodes i = width_in (slice_get nodes i)

-- a node that is no COPY
pub record IsPlain (nodes : List Node) (i : ℕ) : Type 0 where
  pub inside : i < length nodes
  pub no_copy : (j : ℕ) → op_at nodes i ≡ Some (O.Copy j) → ⊥

-- The inputs are nodes, a COPY is of a node that is none, and each node is as wide as its op over its inputs.
pub record IsFormed (nodes : List Node) : Type 0 where
  pub copy : (i j : ℕ) → op_at nodes i ≡ Some (O.Copy j) → IsPlain nodes j
  pub copy_width : (i j : ℕ) → op_at nodes i ≡ Some (O.Copy j) → width_at nodes i ≡ width_at nodes j
  pub const_width : (i : ℕ) (c : Word) → op_at nodes i ≡ Some (O.Const c) → width_at nodes i ≡ c.width.bytes
  pub single : (i : ℕ) (s : Single) (a : ℕ) → op_at nodes i ≡ Some (O.Single s a) → a < length nodes
  pub single_width : (i : ℕ) (s : Single) (a : ℕ) → op_at nodes i ≡ Some (O.Single s a)
      → size_of (width_at nodes) (single_node s (E.Var a)) ≡ Some (width_at nodes i)
  pub pair : (i : ℕ) (p : Pair) (a b : ℕ) → op_at nodes i ≡ Some (O.Pair p a b) → (a < length nodes) × (b < length nodes)
  pub pair_width : (i : ℕ) (p : Pair) (a b : ℕ) → op_at nodes i ≡ Some (O.Pair p a b)
      → size_of (width_at nodes) (pair_node p (E.Var a) (E.Var b)) ≡ Some (width_at nodes i)

-- Of a node that is no COPY. The variable of a value has the node's number.
pub data Seen (nodes : List Node) : ℕ → Expr → Type 0 where
  AsValue : (i : ℕ) (e : Expr) → e ≡ E.Var i → Seen nodes i e
  AsConst : (i : ℕ) (e : Expr) (c : Word) → e ≡ E.Const c → op_at nodes i ≡ Some (O.Const c) → Seen nodes i e
  AsSingle : (i : ℕ) (e : Expr) (s : Single) (a : ℕ) (x : Expr) → e ≡ single_node s x
      → op_at nodes i ≡ Some (O.Single s a) → Seen nodes (real nodes a) x → Seen nodes i e
  AsPair : (i : ℕ) (e : Expr) (p : Pair) (a b : ℕ) (x y : Expr) → e ≡ pair_node p x y
      → op_at nodes i ≡ Some (O.Pair p a b) → Seen nodes (real nodes a) x → Seen nodes (real nodes b) y → Seen nodes i e
