use Rattle.std.proofs.Common.{◌≡◌, ◌≤◌}
use Rattle.opgraph.specs.Graph.{Same}
use Rattle.opgraph.proofs.graph.OpGraph.reserve.Given as goal

abbrev pub invariant-ops : goal.invariant-ops
invariant-ops l = record {
  same : Same l.fn.self l.self;
  ops : l.self.spare_ops ≡ l.counter;
  slots : l.self.spare_slots ≡ l.fn.self.spare_slots;
  still : l.fn.ops ≤ l.initial.counter → l.counter ≡ l.initial.counter;
}

abbrev pub invariant-slots : goal.invariant-slots
invariant-slots l = record {
  same : Same l.fn.self l.self;
  ops : l.self.spare_ops ≡ l.initial.self.spare_ops;
  slots : l.self.spare_slots ≡ l.counter;
  still : l.fn.slots ≤ l.initial.counter → l.counter ≡ l.initial.counter;
}
