use Rattle.std.proofs.Common.{◌≡◌, ◌++◌, drop}
use Rattle.frame_classes.specs.FrameVariables.{before}
use Rattle.frame_classes.proofs.frame_variables.before.Given as goal

abbrev pub invariant-loop-access : goal.invariant-loop-access
invariant-loop-access l = l.found.items ++ before l.limit (drop l.access-index l.accesses) ≡ before l.limit l.accesses
