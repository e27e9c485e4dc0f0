use Rattle.std.proofs.Common.{◌≡◌, ◌++◌}
use Rattle.opgraph.specs.Graph.{block_at}
use Rattle.ssa_model.specs.Drops.{op_numbers}
use Rattle.ssa_text.proofs.order.ops_of.Given as goal

abbrev pub invariant-loop-op : goal.invariant-loop-op
invariant-loop-op l = l.ops.items ++ op_numbers l.op-iterator ≡ block_at l.graph l.fn.block.0
