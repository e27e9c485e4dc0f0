use Rattle.std.proofs.Common.{◌≡◌, ◌+◌, ◌*◌, drop, map, false}
use Rattle.cmeaning.specs.Valid.{rule_of, all_hold}
use Rattle.cmeaning.specs.Arms.{arms_right}
use Rattle.cmeaning.proofs.body.+body.Given as goal

abbrev pub invariant-all_hold_in-loop-s : goal.invariant-all_hold_in-loop-s
invariant-all_hold_in-loop-s l =
    all_hold l.after_call (map (rule_of l.rules.f.now l.rules.labels) (drop l.s-index l.body)) l.in_loop l.room
    ≡ all_hold false (map (rule_of l.rules.f.now l.rules.labels) l.body) l.in_loop l.room

abbrev pub invariant-arms_hold-loop-arm : goal.invariant-arms_hold-loop-arm
invariant-arms_hold-loop-arm l = arms_right l.rules.f.now l.rules.labels (drop l.arm-index l.arms) l.room
    ≡ arms_right l.rules.f.now l.rules.labels l.arms l.room

abbrev pub decreases-all_hold_in : goal.decreases-all_hold_in
decreases-all_hold_in l = 5 * l.room + 1

abbrev pub decreases-arms_hold : goal.decreases-arms_hold
decreases-arms_hold l = 5 * l.room + 2

abbrev pub decreases-tested_holds : goal.decreases-tested_holds
decreases-tested_holds l = 5 * l.room + 2

abbrev pub decreases-switch_holds : goal.decreases-switch_holds
decreases-switch_holds l = 5 * l.room + 3

abbrev pub decreases-branches_hold : goal.decreases-branches_hold
decreases-branches_hold l = 5 * l.room + 3

abbrev pub decreases-stmt_holds : goal.decreases-stmt_holds
decreases-stmt_holds l = 5 * l.room + 4
