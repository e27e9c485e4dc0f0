use Rattle.std.proofs.Common.{◌≡◌, drop}
use Rattle.std.specs.List.{list_any}
use Rattle.pcodetext.specs.ProtoLine.{of_no_argument}
use Rattle.pcodetext.proofs.proto_line.any_no_argument.Given as goal

abbrev pub invariant-loop-range : goal.invariant-loop-range
invariant-loop-range l = list_any of_no_argument l.ranges ≡ list_any of_no_argument (drop l.range-index l.ranges)
