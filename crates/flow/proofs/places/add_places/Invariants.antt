use Rattle.std.proofs.Common.{◌≡◌, ◌++◌}
use Rattle.flow.specs.Slots.{indices}
use Rattle.flow.proofs.places.add_places.Given as goal

abbrev pub invariant-loop-index : goal.invariant-loop-index
invariant-loop-index l = l.places.items ≡ l.initial.places.items ++ indices l.instruction.address l.index
