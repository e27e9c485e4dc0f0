-- What is made, as an expression.
use Rattle.std.specs.Prelude.{◌≡◌}
use Rattle.cmeaning.specs.declared.tree.Expr.{Expr}
use Rattle.cmeaning.specs.declared.tree.Expr.TheVariants as E
use Rattle.rule_views.specs.declared.view.Arg.{Arg}
use Rattle.rule_views.specs.declared.view.Arg.TheVariants as A
use Rattle.rule_views.specs.declared.view.Made.{Made}
use Rattle.rule_views.specs.declared.view.Made.TheVariants as M
use Rattle.rule_views.specs.Nodes.{single_node, pair_node}

-- an operand that is made may be seen so
abbrev pub ArgIs : {S : Type 0} → (S → Expr → Type 0) → Arg S → Expr → Type 0
ArgIs sees (A.Place p) e = sees p e
ArgIs sees (A.Const c) e = e ≡ E.Const c

-- what is made is this expression
abbrev pub Makes : {S : Type 0} → (S → Expr → Type 0) → Made S → Expr → Type 0
Makes sees (M.Is a) e = ArgIs sees a e
Makes sees (M.Single s a) e = (x : Expr) × ((e ≡ single_node s x) × ArgIs sees a x)
Makes sees (M.Pair p a b) e = (x : Expr) × ((y : Expr) × ((e ≡ pair_node p x y) × ArgIs sees a x × ArgIs sees b y))
