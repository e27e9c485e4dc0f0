use Rattle.std.proofs.Common.{◌≡◌, [], drop}
use Rattle.layout.specs.Collected.{with_cases}
use Rattle.layout.proofs.branches.collected.Given as goal

abbrev pub invariant-loop-arm : goal.invariant-loop-arm
invariant-loop-arm l = with_cases l.all (drop l.arm-index l.arms) ≡ with_cases [] l.arms
