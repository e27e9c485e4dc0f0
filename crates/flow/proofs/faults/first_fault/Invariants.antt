use Rattle.std.proofs.Common.{ℕ, ◌<◌, []}
use Rattle.pcode_model.specs.declared.flow.FlowWhy.{FlowWhy}
use Rattle.pcode_model.specs.Flow.{FaultAt}
use Rattle.flow.specs.Slots.{at}
use Rattle.flow.proofs.faults.first_fault.Given as goal

abbrev pub invariant-loop-slot : goal.invariant-loop-slot
invariant-loop-slot l = (k : ℕ) (why : FlowWhy) → k < l.slot → FaultAt l.listing [] (at l.places k) why → ⊥
