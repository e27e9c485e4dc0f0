use Rattle.std.proofs.Common.{◌≡◌, ◌++◌, drop}
use Rattle.std.specs.List.{AllByRecursion}
use Rattle.frame_classes.specs.FrameVariables.{Fits, variables_of}
use Rattle.frame_classes.proofs.frame_variables.variables_of.Given as goal

abbrev pub invariant-loop-run : goal.invariant-loop-run
invariant-loop-run l =
    (l.variables.items ++ variables_of l.escapes (drop l.run-index l.runs) ≡ variables_of l.escapes l.runs)
    × AllByRecursion Fits (drop l.run-index l.runs)
