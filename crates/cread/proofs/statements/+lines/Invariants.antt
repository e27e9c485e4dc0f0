use Rattle.std.proofs.Common.{◌≡◌, ◌+◌, ◌-◌, ◌*◌, length}
use Rattle.ctext.specs.Names.{scope_of}
use Rattle.cread.specs.Words.{behind, many_by}
use Rattle.cread.specs.Statements.{statement_at, spaced_by, arm_by}
use Rattle.cread.proofs.statements.+lines.Given as goal

abbrev pub invariant-body-loop : goal.invariant-body-loop
invariant-body-loop l = behind l.found
    (many_by (spaced_by l.arm (statement_at (scope_of l.f) l.levels)) (l.end - l.counter) l.rest)
    ≡ many_by (spaced_by l.arm (statement_at (scope_of l.f) l.levels)) (length l.bytes) l.bytes

abbrev pub invariant-arms-loop : goal.invariant-arms-loop
invariant-arms-loop l = behind l.found
    (many_by (arm_by (statement_at (scope_of l.f) l.levels)) (l.end - l.counter) l.rest)
    ≡ many_by (arm_by (statement_at (scope_of l.f) l.levels)) (length l.bytes) l.bytes

abbrev pub decreases-statement : goal.decreases-statement
decreases-statement l = 10 * l.levels

abbrev pub decreases-spaced : goal.decreases-spaced
decreases-spaced l = 10 * l.levels + 1

abbrev pub decreases-body : goal.decreases-body
decreases-body l = 10 * l.levels + 2

abbrev pub decreases-closed : goal.decreases-closed
decreases-closed l = 10 * l.levels + 3

abbrev pub decreases-arm : goal.decreases-arm
decreases-arm l = 10 * l.levels + 3

abbrev pub decreases-arms : goal.decreases-arms
decreases-arms l = 10 * l.levels + 4

abbrev pub decreases-all_arms : goal.decreases-all_arms
decreases-all_arms l = 10 * l.levels + 5

abbrev pub decreases-branch : goal.decreases-branch
decreases-branch l = 10 * l.levels + 5

abbrev pub decreases-repeated : goal.decreases-repeated
decreases-repeated l = 10 * l.levels + 5

abbrev pub decreases-endless : goal.decreases-endless
decreases-endless l = 10 * l.levels + 5

abbrev pub decreases-until : goal.decreases-until
decreases-until l = 10 * l.levels + 5

abbrev pub decreases-switch : goal.decreases-switch
decreases-switch l = 10 * l.levels + 6

abbrev pub decreases-behind_word : goal.decreases-behind_word
decreases-behind_word l = 10 * l.levels + 7
