use Rattle.std.proofs.Common.{◌≡◌, ◌≤◌, drop}
use Rattle.pcode_model.specs.Memory.{tuck}
use Rattle.pcode_model.specs.Spaces.{each_at}
use Rattle.run_world.specs.Setting.{size}
use Rattle.pcode_memory.specs.Context.{whole_of}
use Rattle.pcode_memory.proofs.whole.Whole.write_own.Given as goal

abbrev pub invariant-loop-b : goal.invariant-loop-b
invariant-loop-b l = record {
  inside : l.here ≤ l.context.ram.last;
  written : each_at (size l.context.ram) tuck l.here (drop l.b-index l.bytes) (whole_of l.self)
      ≡ each_at (size l.context.ram) tuck l.address l.bytes (whole_of l.initial.self);
}
