use Rattle.std.proofs.Common.{◌≡◌, drop}
use Rattle.pcode_model.specs.Step.{in_some}
use Rattle.frame_known.proofs.calls.in_some.Given as goal

abbrev pub invariant-loop-range : goal.invariant-loop-range
invariant-loop-range l = in_some (drop l.range-index l.ranges) l.offset ≡ in_some l.fn.ranges l.fn.offset
