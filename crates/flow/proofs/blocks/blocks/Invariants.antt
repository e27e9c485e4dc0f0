use Rattle.flow.proofs.Scanning.{Scanned}
use Rattle.flow.proofs.blocks.blocks.Given as goal

abbrev pub invariant-loop-slot : goal.invariant-loop-slot
invariant-loop-slot l = Scanned l.listing l.places l.reached l.begins l.starts l.blocks l.pending l.slot
