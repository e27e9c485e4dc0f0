use Rattle.std.proofs.Common.{◌≡◌, drop}
use Rattle.std.specs.List.{list_any}
use Rattle.pcodetext.specs.ProtoLine.{is_far}
use Rattle.pcodetext.proofs.proto_line.any_far.Given as goal

abbrev pub invariant-loop-range : goal.invariant-loop-range
invariant-loop-range l = list_any is_far l.ranges ≡ list_any is_far (drop l.range-index l.ranges)
