use Rattle.std.proofs.Common.{◌≡◌, ◌++◌, drop}
use Rattle.naming.specs.Named.{all_found, local_of}
use Rattle.naming.proofs.head.locals_of.Given as goal

abbrev pub invariant-loop-variable : goal.invariant-loop-variable
invariant-loop-variable l =
    l.found ++ all_found (local_of l.params l.locals) (drop l.variable-index l.variables)
    ≡ all_found (local_of l.params l.locals) l.variables
