use Rattle.std.proofs.Common.{◌≡◌, ◌++◌, drop, ℕ, ◌+◌, ◌*◌, max, List}
use denote.Param.Weighed.{most}
use Rattle.cmeaning.specs.declared.tree.Arm.{size-Arm}
use Rattle.cmeaning.specs.declared.tree.Stmt.{Stmt, size-Stmt}
use Rattle.ctext.specs.Names.{scope_of}
use Rattle.ctext.specs.Statements.{body_text, arms_text}
use Rattle.ctext.proofs.statements.+bodies.Given as goal

abbrev pub invariant-print_body-loop-s : goal.invariant-print_body-loop-s
invariant-print_body-loop-s l =
    l.out.items ++ body_text (scope_of l.f) (drop l.s-index l.body) l.indent
    ≡ l.initial.out.items ++ body_text (scope_of l.f) l.body l.indent

abbrev pub invariant-print_arms-loop-arm : goal.invariant-print_arms-loop-arm
invariant-print_arms-loop-arm l =
    l.out.items ++ arms_text (scope_of l.f) (drop l.arm-index l.arms) l.indent
    ≡ l.initial.out.items ++ arms_text (scope_of l.f) l.arms l.indent

abbrev depth : List Stmt → ℕ
depth body = most size-Stmt body

abbrev pub decreases-print_stmt : goal.decreases-print_stmt
decreases-print_stmt l = 5 * size-Stmt l.s.now

abbrev pub decreases-print_body : goal.decreases-print_body
decreases-print_body l = 5 * depth l.body.now + 1

abbrev pub decreases-print_inner : goal.decreases-print_inner
decreases-print_inner l = 5 * depth l.body.now + 2

abbrev pub decreases-print_block : goal.decreases-print_block
decreases-print_block l = 5 * depth l.body.now + 3

abbrev pub decreases-print_if_else : goal.decreases-print_if_else
decreases-print_if_else l = 5 * max (depth l.body.now) (depth l.other.now) + 3

abbrev pub decreases-print_do_while : goal.decreases-print_do_while
decreases-print_do_while l = 5 * depth l.body.now + 3

abbrev pub decreases-print_loop : goal.decreases-print_loop
decreases-print_loop l = 5 * depth l.body.now + 3

abbrev pub decreases-print_arm_lines : goal.decreases-print_arm_lines
decreases-print_arm_lines l = 5 * depth l.body.now + 2

abbrev pub decreases-print_arm : goal.decreases-print_arm
decreases-print_arm l = 5 * size-Arm l.arm.now

abbrev pub decreases-print_arms : goal.decreases-print_arms
decreases-print_arms l = 5 * most size-Arm l.arms.now + 1

abbrev pub decreases-print_switch : goal.decreases-print_switch
decreases-print_switch l = 5 * most size-Arm l.arms.now + 2
