use Rattle.std.proofs.Common.{◌≡◌, ◌-◌, ◌^◌}
use Rattle.run_world.specs.Maps.{at}
use Rattle.pcode_operands.specs.Calls.{forgotten, is_held}
use Rattle.pcode_operands.proofs.calls.forget.Given as goal

abbrev pub invariant-loop-next : goal.invariant-loop-next
invariant-loop-next l = at l.local ≡ forgotten (is_held l.keep l.stack) l.space l.here (at l.initial.local)

abbrev pub decreases-loop-next : goal.decreases-loop-next
decreases-loop-next l = 2 ^ 64 - l.here
