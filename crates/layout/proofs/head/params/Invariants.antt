use Rattle.std.proofs.Common.{◌≡◌, ◌++◌, drop}
use Rattle.layout.specs.Function.{params_of}
use Rattle.layout.proofs.head.params.Given as goal

abbrev pub invariant-loop-variable : goal.invariant-loop-variable
invariant-loop-variable l = l.params ++ params_of (drop l.variable-index l.variables) ≡ params_of l.variables
