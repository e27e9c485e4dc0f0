use Rattle.std.proofs.Common.{◌≡◌}
use Rattle.run_world.specs.Maps.{at, over}
use Rattle.run_world.proofs.setting.put_fixed.Given as goal

abbrev pub invariant-loop-i : goal.invariant-loop-i
invariant-loop-i l = at l.map ≡ over l.fixed.space l.fixed.offset l.i l.fixed.bytes (at l.initial.map)
