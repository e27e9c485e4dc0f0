use Rattle.std.proofs.Common.{◌≡◌, ℕ, ◌+◌, ◌-◌, length}
use Rattle.naming.specs.Places.{entry}
use Rattle.naming.proofs.firsts.lengthen.Given as goal

abbrev pub invariant-loop-table : goal.invariant-loop-table
invariant-loop-table l = (y : ℕ) → entry l.table.items y ≡ entry l.initial.table.items y

abbrev pub decreases-loop-table : goal.decreases-loop-table
decreases-loop-table l = l.x + 1 - length l.table.items
