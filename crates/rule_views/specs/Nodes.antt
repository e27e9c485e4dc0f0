-- The expressions that nodes make of their operands.
use Rattle.cmeaning.specs.declared.tree.Expr.{Expr}
use Rattle.cmeaning.specs.declared.tree.Expr.TheVariants as E
use Rattle.rule_views.specs.declared.nodes.Single.{Single}
use Rattle.rule_views.specs.declared.nodes.Single.TheVariants as S
use Rattle.rule_views.specs.declared.nodes.Pair.{Pair}
use Rattle.rule_views.specs.declared.nodes.Pair.TheVariants as P

abbrev pub single_node : Single → Expr → Expr
single_node (S.Unary op) x = E.Unary op x
single_node (S.Extend op w) x = E.Extend op w x
single_node (S.Part k w) x = E.Part k w x
single_node (S.Count op) x = E.Count op x

abbrev pub pair_node : Pair → Expr → Expr → Expr
pair_node (P.Arithmetic op) x y = E.Arithmetic op x y
pair_node (P.Division op) x y = E.Division op x y
pair_node (P.SignedDivision op) x y = E.SignedDivision op x y
pair_node (P.Shift op) x y = E.Shift op x y
pair_node (P.Compare op) x y = E.Compare op x y
pair_node (P.SignedCompare op) x y = E.SignedCompare op x y
pair_node P.Concat x y = E.Concat x y
pair_node (P.Overflow op) x y = E.Overflow op x y
