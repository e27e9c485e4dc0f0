use Rattle.std.proofs.Common.{◌+◌, ◌*◌, max}
use Rattle.cmeaning.specs.declared.tree.Expr.{size-Expr}
use Rattle.parts.proofs.visits.+reads.Given as goal

abbrev pub decreases-visit_expr : goal.decreases-visit_expr
decreases-visit_expr g l = 2 * size-Expr l.e.now

abbrev pub decreases-visit_two : goal.decreases-visit_two
decreases-visit_two g l = 2 * max (size-Expr l.a.now) (size-Expr l.b.now) + 1
