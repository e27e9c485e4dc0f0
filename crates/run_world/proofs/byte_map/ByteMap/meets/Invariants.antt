use Rattle.std.proofs.Common.{◌≡◌, ◌≤◌, ◌-◌}
use Rattle.pcode_model.specs.Spaces.{any_at, is_some}
use Rattle.run_world.specs.Maps.{at}
use Rattle.run_world.specs.Setting.{size}
use Rattle.run_world.proofs.byte_map.ByteMap.meets.Given as goal

abbrev pub invariant-loop : goal.invariant-loop
invariant-loop l = record {
  inside : l.here ≤ l.shape.last;
  none : any_at (size l.shape) (λ o. is_some (at l.self l.space o)) l.here (l.count - l.counter)
      ≡ any_at (size l.shape) (λ o. is_some (at l.self l.space o)) l.offset l.count;
}
