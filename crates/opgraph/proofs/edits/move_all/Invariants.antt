use Rattle.std.proofs.Common.{Some, length}
use Rattle.node_lists.specs.Families.{list_at}
use Rattle.opgraph.proofs.MoveAll.{SoFar}
use Rattle.opgraph.proofs.edits.move_all.Given as goal

abbrev pub invariant-loop-slot : goal.invariant-loop-slot
invariant-loop-slot l = SoFar l.before l.after l.initial.uses l.uses

abbrev pub decreases-loop-slot : goal.decreases-loop-slot
decreases-loop-slot l = length (list_at l.uses (Some l.before))
