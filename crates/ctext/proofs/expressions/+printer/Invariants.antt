use Rattle.std.proofs.Common.{◌+◌, ◌*◌, max}
use Rattle.cmeaning.specs.declared.tree.Expr.{size-Expr}
use Rattle.ctext.proofs.expressions.+printer.Given as goal

abbrev pub decreases-print_expr : goal.decreases-print_expr
decreases-print_expr l = 5 * size-Expr l.e.now

abbrev pub decreases-print_unary : goal.decreases-print_unary
decreases-print_unary l = 5 * size-Expr l.a.now + 1

abbrev pub decreases-print_between : goal.decreases-print_between
decreases-print_between l = 5 * max (size-Expr l.a.now) (size-Expr l.b.now) + 1

abbrev pub decreases-print_binary : goal.decreases-print_binary
decreases-print_binary l = 5 * max (size-Expr l.a.now) (size-Expr l.b.now) + 2

abbrev pub decreases-print_signed_division : goal.decreases-print_signed_division
decreases-print_signed_division l = 5 * max (size-Expr l.a.now) (size-Expr l.b.now) + 2

abbrev pub decreases-print_compare : goal.decreases-print_compare
decreases-print_compare l = 5 * max (size-Expr l.a.now) (size-Expr l.b.now) + 2

abbrev pub decreases-print_signed_compare : goal.decreases-print_signed_compare
decreases-print_signed_compare l = 5 * max (size-Expr l.a.now) (size-Expr l.b.now) + 2

abbrev pub decreases-print_pair : goal.decreases-print_pair
decreases-print_pair l = 5 * max (size-Expr l.a.now) (size-Expr l.b.now) + 2

abbrev pub decreases-print_call : goal.decreases-print_call
decreases-print_call l = 5 * max (size-Expr l.a.now) (size-Expr l.b.now) + 3

abbrev pub decreases-print_concat : goal.decreases-print_concat
decreases-print_concat l = 5 * max (size-Expr l.a.now) (size-Expr l.b.now) + 4

abbrev pub decreases-print_shift : goal.decreases-print_shift
decreases-print_shift l = 5 * max (size-Expr l.a.now) (size-Expr l.b.now) + 4

abbrev pub decreases-print_extended : goal.decreases-print_extended
decreases-print_extended l = 5 * size-Expr l.a.now + 1

abbrev pub decreases-print_extend : goal.decreases-print_extend
decreases-print_extend l = 5 * size-Expr l.a.now + 2

abbrev pub decreases-print_dropped : goal.decreases-print_dropped
decreases-print_dropped l = 5 * size-Expr l.a.now + 1

abbrev pub decreases-print_part : goal.decreases-print_part
decreases-print_part l = 5 * size-Expr l.a.now + 2

abbrev pub decreases-print_count : goal.decreases-print_count
decreases-print_count l = 5 * size-Expr l.a.now + 1
