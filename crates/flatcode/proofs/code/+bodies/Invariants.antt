use Rattle.std.proofs.Common.{ℕ, ◌+◌, ◌*◌, max, drop, List}
use denote.Param.Weighed.{most}
use Rattle.cmeaning.specs.declared.tree.Arm.{size-Arm}
use Rattle.cmeaning.specs.declared.tree.Stmt.{Stmt, size-Stmt}
use Rattle.cmeaning.specs.Flat.{pieces_of, returns_by}
use Rattle.flatcode.specs.declared.draft.Draft.{Draft}
use Rattle.flatcode.specs.Steps.{arms_of}
use Rattle.flatcode.specs.Adds.{PutsAll, PutsArms}
use Rattle.flatcode.proofs.code.+bodies.Given as goal

abbrev pub invariant-put_body-loop-s : goal.invariant-put_body-loop-s
invariant-put_body-loop-s l =
    (new : Draft)
    → PutsAll l.code new (pieces_of (returns_by l.callees) (drop l.s-index l.body)) l.out
    → PutsAll l.initial.code new (pieces_of (returns_by l.callees) l.body) l.out

abbrev pub invariant-put_arms-loop-arm : goal.invariant-put_arms-loop-arm
invariant-put_arms-loop-arm l =
    (new : Draft)
    → PutsArms l.code new (arms_of (returns_by l.callees) (drop l.arm-index l.arms)) l.out l.past
    → PutsArms l.initial.code new (arms_of (returns_by l.callees) l.arms) l.out l.past

abbrev depth : List Stmt → ℕ
depth body = most size-Stmt body

abbrev pub decreases-put_stmt : goal.decreases-put_stmt
decreases-put_stmt l = 4 * size-Stmt l.s.now

abbrev pub decreases-put_body : goal.decreases-put_body
decreases-put_body l = 4 * depth l.body.now + 1

abbrev pub decreases-put_if : goal.decreases-put_if
decreases-put_if l = 4 * depth l.body.now + 2

abbrev pub decreases-put_if_else : goal.decreases-put_if_else
decreases-put_if_else l = 4 * max (depth l.body.now) (depth l.other.now) + 2

abbrev pub decreases-put_while : goal.decreases-put_while
decreases-put_while l = 4 * depth l.body.now + 2

abbrev pub decreases-put_do_while : goal.decreases-put_do_while
decreases-put_do_while l = 4 * depth l.body.now + 2

abbrev pub decreases-put_loop : goal.decreases-put_loop
decreases-put_loop l = 4 * depth l.body.now + 2

abbrev pub decreases-put_arm : goal.decreases-put_arm
decreases-put_arm l = 4 * size-Arm l.arm.now

abbrev pub decreases-put_arms : goal.decreases-put_arms
decreases-put_arms l = 4 * most size-Arm l.arms.now + 1

abbrev pub decreases-put_switch : goal.decreases-put_switch
decreases-put_switch l = 4 * most size-Arm l.arms.now + 2
