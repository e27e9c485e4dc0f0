use Rattle.std.proofs.Common.{◌≡◌, ◌≤◌, ◌-◌, ◌++◌}
use Rattle.pcode_model.specs.Spaces.{bytes_at}
use Rattle.run_world.specs.Setting.{size}
use Rattle.c_run.specs.States.{left_of}
use Rattle.c_run.proofs.words.left_bytes.Given as goal

abbrev pub invariant-loop : goal.invariant-loop
invariant-loop l = record {
  inside : l.here ≤ l.shape.last;
  read : l.out.items ++ bytes_at (size l.shape) (left_of l.left) l.here (l.count - l.counter)
      ≡ bytes_at (size l.shape) (left_of l.left) l.offset l.count;
}
