use Rattle.std.proofs.Common.{◌≡◌, ◌≤◌, ◌-◌, ◌++◌}
use Rattle.pcode_model.specs.Memory.{found}
use Rattle.pcode_model.specs.Spaces.{bytes_at}
use Rattle.run_world.specs.Setting.{size}
use Rattle.pcode_memory.specs.Context.{whole_of}
use Rattle.pcode_memory.proofs.whole.Whole.found_bytes.Given as goal

abbrev pub invariant-loop : goal.invariant-loop
invariant-loop l = record {
  inside : l.here ≤ l.context.ram.last;
  read : l.out.items
      ++ bytes_at (size l.context.ram) (found l.context.listing.now (whole_of l.self)) l.here (l.count - l.counter)
      ≡ bytes_at (size l.context.ram) (found l.context.listing.now (whole_of l.self)) l.address l.count;
}
