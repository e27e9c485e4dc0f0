use Rattle.std.proofs.Common.{◌≡◌, ◌+◌}
use Rattle.opgraph.proofs.Runs.{Shortened}
use Rattle.opgraph.proofs.graph.OpGraph.detach_all.Given as goal

abbrev pub invariant-slots : goal.invariant-slots
invariant-slots l = record {
  row : Shortened l.op l.counter l.fn.self l.self;
  ops : l.self.spare_ops ≡ l.fn.self.spare_ops;
  slots : l.self.spare_slots ≡ l.fn.self.spare_slots + l.counter;
}
