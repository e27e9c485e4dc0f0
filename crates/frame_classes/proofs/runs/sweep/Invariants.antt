use Rattle.std.proofs.Common.{◌≡◌, ◌++◌, drop}
use Rattle.frame_classes.specs.Runs.{swept}
use Rattle.frame_classes.proofs.runs.sweep.Given as goal

abbrev pub invariant-loop-access : goal.invariant-loop-access
invariant-loop-access l = l.runs.items ++ swept l.last (drop l.access-index l.accesses) ≡ swept l.fn.first l.accesses
