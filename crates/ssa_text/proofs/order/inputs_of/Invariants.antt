use Rattle.std.proofs.Common.{◌≡◌, ◌++◌}
use Rattle.opgraph.specs.Graph.{inputs_in, numbers, op_at}
use Rattle.ssa_text.proofs.order.inputs_of.Given as goal

abbrev pub invariant-loop-value : goal.invariant-loop-value
invariant-loop-value l = l.inputs.items ++ numbers l.value-iterator ≡ inputs_in (op_at l.graph l.fn.op.0)
