use Rattle.std.proofs.Common.{◌≡◌, ◌++◌, drop}
use Rattle.op_code.specs.Lowered.{ranges_of}
use Rattle.plaincode.proofs.variables.ranges.Given as goal

abbrev pub invariant-loop-atom : goal.invariant-loop-atom
invariant-loop-atom l =
    l.ranges.items ++ ranges_of l.listing (drop l.atom-index l.atoms) ≡ ranges_of l.listing l.atoms
