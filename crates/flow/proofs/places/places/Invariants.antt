use Rattle.std.proofs.Common.{◌≡◌, take}
use Rattle.flow.proofs.Listed.{places_in}
use Rattle.flow.proofs.places.places.Given as goal

abbrev pub invariant-loop-instruction : goal.invariant-loop-instruction
invariant-loop-instruction l = l.places.items ≡ places_in (take l.instruction-index l.instruction-items)
