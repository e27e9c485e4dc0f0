use Rattle.std.proofs.Common.{◌≡◌, ◌≤◌, ◌-◌}
use Rattle.pcode_model.specs.Spaces.{any_at}
use Rattle.run_world.specs.Setting.{size}
use Rattle.pcode_memory.specs.Context.{whole_of}
use Rattle.pcode_memory.proofs.whole.Whole.any_spoiled.Given as goal

abbrev pub invariant-loop : goal.invariant-loop
invariant-loop l = record {
  inside : l.here ≤ l.shape.last;
  none : any_at (size l.shape) (whole_of l.self).spoiled l.here (l.count - l.counter)
      ≡ any_at (size l.shape) (whole_of l.self).spoiled l.address l.count;
}
