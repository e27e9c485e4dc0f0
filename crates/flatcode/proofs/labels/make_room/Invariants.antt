use Rattle.std.proofs.Common.{◌≡◌, ℕ, ◌+◌, ◌-◌, vec_len}
use Rattle.flatcode.specs.Steps.{place_in}
use Rattle.flatcode.proofs.labels.make_room.Given as goal

abbrev pub invariant-loop-table : goal.invariant-loop-table
invariant-loop-table l = (end n : ℕ) → place_in l.table.items end n ≡ place_in l.initial.table.items end n

abbrev pub decreases-loop-table : goal.decreases-loop-table
decreases-loop-table l = l.at + 1 - vec_len l.table
