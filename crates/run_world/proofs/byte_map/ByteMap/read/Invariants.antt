use Rattle.std.proofs.Common.{◌≡◌, ◌≤◌, ◌-◌, ◌++◌}
use Rattle.pcode_model.specs.Spaces.{bytes_at}
use Rattle.run_world.specs.Maps.{bytes_of}
use Rattle.run_world.specs.Setting.{size}
use Rattle.run_world.proofs.byte_map.ByteMap.read.Given as goal

abbrev pub invariant-loop : goal.invariant-loop
invariant-loop l = record {
  inside : l.here ≤ l.shape.last;
  read : l.out.items ++ bytes_at (size l.shape) (bytes_of l.self l.space) l.here (l.count - l.counter)
      ≡ bytes_at (size l.shape) (bytes_of l.self l.space) l.offset l.count;
}
