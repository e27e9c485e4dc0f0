use Rattle.std.proofs.Common.{◌≡◌, ◌++◌, length, map, reverse}
use Rattle.layout.specs.Collected.{branch_arm}
use Rattle.layout.proofs.branches.made.Given as goal

abbrev pub invariant-loop-led : goal.invariant-loop-led
invariant-loop-led l = l.branches ++ map branch_arm (reverse l.listed.items) ≡ map branch_arm l.fn.listed.items

abbrev pub decreases-loop-led : goal.decreases-loop-led
decreases-loop-led l = length l.listed.items
