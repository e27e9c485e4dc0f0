use Rattle.std.proofs.Common.{◌≡◌, ◌≤◌, ◌-◌, ◌+◌, length}
use Rattle.std.specs.Io.KnownBytes.{Consumes}
use Rattle.outside.proofs.reading.read_all.Given as goal

abbrev pub invariant-loop-src : goal.invariant-loop-src
invariant-loop-src g l = (length l.bytes ≤ l.most) × Consumes (g.S.Source.told l.initial.src).left (g.S.Source.told l.src).left l.bytes × ((g.S.Source.told l.src).faults ≡ (g.S.Source.told l.initial.src).faults) × ((g.S.Source.told l.src).files ≡ (g.S.Source.told l.initial.src).files) × (l.most ≡ l.limit + 1)

abbrev pub decreases-loop-src : goal.decreases-loop-src
decreases-loop-src g l = l.most - length l.bytes
