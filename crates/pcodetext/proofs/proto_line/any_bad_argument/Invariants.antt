use Rattle.std.proofs.Common.{◌≡◌, drop}
use Rattle.std.specs.List.{list_any}
use Rattle.pcodetext.specs.ProtoLine.{is_bad_argument}
use Rattle.pcodetext.proofs.proto_line.any_bad_argument.Given as goal

abbrev pub invariant-loop-range : goal.invariant-loop-range
invariant-loop-range l =
    list_any (is_bad_argument l.said) l.ranges ≡ list_any (is_bad_argument l.said) (drop l.range-index l.ranges)
