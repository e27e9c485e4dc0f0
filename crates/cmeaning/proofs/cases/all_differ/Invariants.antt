use Rattle.std.proofs.Common.{◌≡◌, drop}
use Rattle.cmeaning.specs.Arms.{arms_differ}
use Rattle.cmeaning.proofs.cases.all_differ.Given as goal

abbrev pub invariant-loop-i : goal.invariant-loop-i
invariant-loop-i l = arms_differ (drop l.i l.arms) ≡ arms_differ l.arms
