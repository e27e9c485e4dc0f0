use Rattle.std.proofs.Common.{◌≡◌}
use Rattle.flow.specs.Slots.{picked}
use Rattle.flow.proofs.starts.starts.Given as goal

abbrev pub invariant-loop-slot : goal.invariant-loop-slot
invariant-loop-slot l = l.starts.items ≡ picked l.begins l.places l.slot
