use Rattle.std.proofs.Common.{◌≡◌, ◌++◌, drop}
use Rattle.op_code.specs.Left.{left_from}
use Rattle.op_code.proofs.left.leftovers.Given as goal

abbrev pub invariant-loop-at : goal.invariant-loop-at
invariant-loop-at l =
    l.left ++ left_from l.listing l.proto l.at (drop l.at l.ranges) ≡ left_from l.listing l.proto 0 l.ranges
