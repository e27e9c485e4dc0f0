use Rattle.flow.proofs.Marking.{Marking}
use Rattle.flow.proofs.starts.begins.Given as goal

abbrev pub invariant-loop-slot : goal.invariant-loop-slot
invariant-loop-slot l = Marking l.listing l.places l.start l.slot l.begins.items
