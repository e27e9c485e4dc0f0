use Rattle.std.proofs.Common.{◌≡◌, ◌≤◌, drop}
use Rattle.pcode_model.specs.Spaces.{each_at, put_in}
use Rattle.run_world.specs.Maps.{bytes_of}
use Rattle.run_world.specs.Setting.{size}
use Rattle.run_world.proofs.byte_map.ByteMap.write.Given as goal

abbrev pub invariant-loop-b : goal.invariant-loop-b
invariant-loop-b l = record {
  inside : l.here ≤ l.shape.last;
  written : each_at (size l.shape) (put_in l.space) l.here (drop l.b-index l.bytes) (bytes_of l.self)
      ≡ each_at (size l.shape) (put_in l.space) l.offset l.bytes (bytes_of l.initial.self);
}
