use Rattle.std.proofs.Common.{◌≤◌, length}
use Rattle.ssa_text.proofs.Placing.{Notes}
use Rattle.ssa_text.proofs.places.places_of.Given as goal

abbrev pub invariant-loop-left : goal.invariant-loop-left
invariant-loop-left l = (l.left ≤ length l.numbers) × Notes l.places l.numbers l.left

abbrev pub decreases-loop-left : goal.decreases-loop-left
decreases-loop-left l = l.left
