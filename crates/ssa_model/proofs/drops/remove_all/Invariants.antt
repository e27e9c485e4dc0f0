use Rattle.std.proofs.Common.{◌≡◌, ◌+◌, take}
use Rattle.ssa_model.specs.Drops.{op_numbers, Cleared, slots_of}
use Rattle.ssa_model.proofs.drops.remove_all.Given as goal

abbrev pub invariant-loop-op : goal.invariant-loop-op
invariant-loop-op l = record {
  cleared : Cleared (op_numbers (take l.op-index l.ops)) l.initial.graph l.graph;
  spare_ops : l.graph.spare_ops ≡ l.initial.graph.spare_ops + l.op-index;
  spare_slots : l.graph.spare_slots
      ≡ l.initial.graph.spare_slots + slots_of l.initial.graph (op_numbers (take l.op-index l.ops));
}
