use Rattle.std.proofs.Common.{◌≡◌, drop}
use Rattle.std.specs.List.{list_any}
use Rattle.pcodetext.specs.Checks.{of_unknown}
use Rattle.pcodetext.proofs.checks.any_unknown.Given as goal

abbrev pub invariant-loop-range : goal.invariant-loop-range
invariant-loop-range l = list_any of_unknown l.ranges ≡ list_any of_unknown (drop l.range-index l.ranges)
