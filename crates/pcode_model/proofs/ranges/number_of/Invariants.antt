use Rattle.std.proofs.Common.{◌≡◌, ◌+◌, drop}
use Rattle.pcode_model.specs.Spaces.{number_of}
use Rattle.pcode_model.proofs.ranges.number_of.Given as goal

abbrev pub invariant-loop-i : goal.invariant-loop-i
invariant-loop-i l = number_of l.kind l.spaces ≡ l.i + number_of l.kind (drop l.i l.spaces)
