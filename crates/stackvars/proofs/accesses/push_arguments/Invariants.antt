use Rattle.std.proofs.Common.{◌≡◌, ◌++◌, drop}
use Rattle.stackvars.specs.Accesses.{passed}
use Rattle.stackvars.specs.Collected.{atoms_of}
use Rattle.stackvars.proofs.accesses.push_arguments.Given as goal

abbrev pub invariant-loop-argument : goal.invariant-loop-argument
invariant-loop-argument l =
    l.out.items ++ atoms_of l.listing (passed (drop l.argument-index l.arguments))
    ≡ l.fn.out.items ++ atoms_of l.listing (passed l.arguments)
