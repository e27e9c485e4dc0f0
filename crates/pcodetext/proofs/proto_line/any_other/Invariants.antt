use Rattle.std.proofs.Common.{◌≡◌, drop}
use Rattle.std.specs.List.{list_any}
use Rattle.pcodetext.specs.ProtoLine.{of_other}
use Rattle.pcodetext.proofs.proto_line.any_other.Given as goal

abbrev pub invariant-loop-range : goal.invariant-loop-range
invariant-loop-range l =
    list_any (of_other l.spaces) l.ranges ≡ list_any (of_other l.spaces) (drop l.range-index l.ranges)
