use Rattle.std.proofs.Common.{◌≡◌, ◌++◌, drop, map}
use Rattle.op_code.specs.Lowered.{variable_for}
use Rattle.plaincode.proofs.variables.variables.Given as goal

abbrev pub invariant-loop-atom : goal.invariant-loop-atom
invariant-loop-atom l = l.variables ++ map variable_for (drop l.atom-index l.atoms) ≡ map variable_for l.atoms
