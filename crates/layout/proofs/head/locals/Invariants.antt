use Rattle.std.proofs.Common.{◌≡◌, ◌++◌, drop}
use Rattle.layout.specs.Function.{locals_of}
use Rattle.layout.proofs.head.locals.Given as goal

abbrev pub invariant-loop-variable : goal.invariant-loop-variable
invariant-loop-variable l = l.locals ++ locals_of (drop l.variable-index l.variables) ≡ locals_of l.variables
