use Rattle.std.proofs.Common.{◌≡◌, drop}
use Rattle.std.specs.List.{list_any}
use Rattle.pcodetext.specs.Checks.{is_empty}
use Rattle.pcodetext.proofs.op_line.any_empty.Given as goal

abbrev pub invariant-loop-range : goal.invariant-loop-range
invariant-loop-range l = list_any is_empty l.ranges ≡ list_any is_empty (drop l.range-index l.ranges)
