use Rattle.std.proofs.Common.{◌+◌, length}
use Rattle.flow.specs.Steps.{unmarked}
use Rattle.flow.proofs.Reaching.{Searching}
use Rattle.flow.proofs.reach.reach.Given as goal

abbrev pub invariant-loop-slot : goal.invariant-loop-slot
invariant-loop-slot l = Searching l.listing l.places l.start l.reached.items l.work.items

abbrev pub decreases-loop-slot : goal.decreases-loop-slot
decreases-loop-slot l = unmarked l.reached.items + length l.work.items
