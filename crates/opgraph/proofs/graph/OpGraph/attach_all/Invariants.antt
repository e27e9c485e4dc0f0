use Rattle.std.proofs.Common.{◌≡◌, ◌+◌, take}
use Rattle.opgraph.specs.Graph.{numbers}
use Rattle.opgraph.proofs.Runs.{Extended}
use Rattle.opgraph.proofs.graph.OpGraph.attach_all.Given as goal

abbrev pub invariant-loop-v : goal.invariant-loop-v
invariant-loop-v l = record {
  row : Extended l.op (numbers (take l.v-index l.inputs)) l.fn.self l.self;
  ops : l.self.spare_ops ≡ l.fn.self.spare_ops;
  slots : l.self.spare_slots + l.v-index ≡ l.fn.self.spare_slots;
}
