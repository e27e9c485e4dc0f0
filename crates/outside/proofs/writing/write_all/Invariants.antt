use Rattle.std.proofs.Common.{◌≡◌, ◌≤◌, ◌-◌, take, length}
use Rattle.std.specs.Io.KnownBytes.{Appends}
use Rattle.outside.proofs.writing.write_all.Given as goal

abbrev pub invariant-loop-done : goal.invariant-loop-done
invariant-loop-done g l = (l.done ≤ length l.piece) × Appends (g.K.Sink.told l.initial.out).taken (g.K.Sink.told l.out).taken (take l.done l.piece) × ((g.K.Sink.told l.out).faults ≡ (g.K.Sink.told l.initial.out).faults)

abbrev pub decreases-loop-done : goal.decreases-loop-done
decreases-loop-done g l = length l.piece - l.done
