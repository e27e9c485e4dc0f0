use Rattle.std.proofs.Common.{◌≡◌, drop}
use Rattle.op_code.specs.Left.{meets_some}
use Rattle.op_code.proofs.left.meets_some.Given as goal

abbrev pub invariant-loop-w : goal.invariant-loop-w
invariant-loop-w l = meets_some (drop l.w-index l.ranges) l.v ≡ meets_some l.ranges l.v
