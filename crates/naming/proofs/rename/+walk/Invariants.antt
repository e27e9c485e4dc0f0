use Rattle.std.proofs.Common.{◌≡◌, ◌+◌, ◌*◌, ◌++◌, drop, map, max}
use denote.Param.Weighed.{most}
use Rattle.cmeaning.specs.declared.tree.Arm.{size-Arm}
use Rattle.cmeaning.specs.declared.tree.Stmt.{size-Stmt}
use Rattle.naming.specs.Renamed.{body_by, arm_by}
use Rattle.naming.specs.First.{names_of}
use Rattle.naming.proofs.rename.+walk.Given as goal

abbrev pub invariant-renamed-loop-s : goal.invariant-renamed-loop-s
invariant-renamed-loop-s l =
    l.made ++ body_by (names_of l.order) (drop l.s-index l.body) ≡ body_by (names_of l.order) l.body

abbrev pub invariant-arms-loop-a : goal.invariant-arms-loop-a
invariant-arms-loop-a l =
    l.made ++ map (arm_by (names_of l.order)) (drop l.a-index l.arms) ≡ map (arm_by (names_of l.order)) l.arms

abbrev pub decreases-stmt : goal.decreases-stmt
decreases-stmt l = 3 * size-Stmt l.s.now

abbrev pub decreases-conditional : goal.decreases-conditional
decreases-conditional l = 3 * most size-Stmt l.inner.now + 2

abbrev pub decreases-either : goal.decreases-either
decreases-either l = 3 * max (most size-Stmt l.yes.now) (most size-Stmt l.no.now) + 2

abbrev pub decreases-tested_first : goal.decreases-tested_first
decreases-tested_first l = 3 * most size-Stmt l.inner.now + 2

abbrev pub decreases-tested_last : goal.decreases-tested_last
decreases-tested_last l = 3 * most size-Stmt l.inner.now + 2

abbrev pub decreases-endless : goal.decreases-endless
decreases-endless l = 3 * most size-Stmt l.inner.now + 2

abbrev pub decreases-switch : goal.decreases-switch
decreases-switch l = 3 * most size-Arm l.inner.now + 2

abbrev pub decreases-renamed : goal.decreases-renamed
decreases-renamed l = 3 * most size-Stmt l.body.now + 1

abbrev pub decreases-arms : goal.decreases-arms
decreases-arms l = 3 * most size-Arm l.arms.now + 1

abbrev pub decreases-arm : goal.decreases-arm
decreases-arm l = 3 * size-Arm l.arm.now
