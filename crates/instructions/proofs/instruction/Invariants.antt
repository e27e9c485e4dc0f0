use Rattle.std.proofs.Common.{◌-◌}
use Rattle.instructions.proofs.Apart.{Searching}
use Rattle.instructions.proofs.instruction.Given as goal

abbrev pub invariant-loop-low : goal.invariant-loop-low
invariant-loop-low l = Searching l.code l.address l.low l.high

abbrev pub decreases-loop-low : goal.decreases-loop-low
decreases-loop-low l = l.high - l.low
