use Rattle.std.proofs.Common.{◌≡◌, ◌≤◌, ◌-◌, ◌++◌}
use Rattle.pcode_model.specs.Spaces.{bytes_at}
use Rattle.run_world.specs.Setting.{size}
use Rattle.pcode_model.specs.Step.{first_apart}
use Rattle.c_run.specs.States.{entry_at}
use Rattle.c_run.proofs.start.own_bytes.Given as goal

abbrev pub invariant-loop : goal.invariant-loop
invariant-loop l = record {
  inside : l.here ≤ l.shape.last;
  read : l.out.items
      ++ bytes_at (size l.shape) (first_apart l.context.listing.now (entry_at l.origin)).own l.here
      (l.count - l.counter)
      ≡ bytes_at (size l.shape) (first_apart l.context.listing.now (entry_at l.origin)).own l.offset l.count;
}
