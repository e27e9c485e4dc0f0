use Rattle.std.proofs.Common.{◌≡◌, ℕ, ◌-◌, drop, length, map}
use Rattle.cmeaning.specs.Flat.{found_in}
use Rattle.flatcode.specs.Steps.{place_in}
use Rattle.flatcode.specs.Adds.{pair_of}
use Rattle.flatcode.proofs.labels.table_of.Given as goal

abbrev pub invariant-loop-i : goal.invariant-loop-i
invariant-loop-i l =
    (end n : ℕ) → place_in l.table.items end n ≡ found_in (map pair_of (drop (length l.labels - l.i) l.labels)) end n
