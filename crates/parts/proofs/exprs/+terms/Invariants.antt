use Rattle.std.proofs.Common.{◌+◌, ◌*◌, max}
use Rattle.cmeaning.specs.declared.tree.Expr.{size-Expr}
use Rattle.parts.proofs.exprs.+terms.Given as goal

abbrev pub decreases-with_all : goal.decreases-with_all
decreases-with_all g l = 3 * size-Expr l.e.now

abbrev pub decreases-one : goal.decreases-one
decreases-one g l = 3 * size-Expr l.a.now + 1

abbrev pub decreases-two : goal.decreases-two
decreases-two g l = 3 * max (size-Expr l.a.now) (size-Expr l.b.now) + 2
