use Rattle.std.proofs.Common.{◌≡◌, drop}
use Rattle.frame_classes.specs.FrameVariables.{limit}
use Rattle.frame_classes.proofs.frame_variables.limit.Given as goal

abbrev pub invariant-loop-run : goal.invariant-loop-run
invariant-loop-run l = limit l.escapes (drop l.run-index l.runs) ≡ limit l.escapes l.runs
