use Rattle.std.proofs.Common.{◌≡◌, ◌++◌, drop}
use Rattle.stackvars.specs.Collected.{atoms_in}
use Rattle.stackvars.proofs.accesses.accesses.Given as goal

abbrev pub invariant-loop-block : goal.invariant-loop-block
invariant-loop-block l = l.out.items ++ atoms_in l.listing (drop l.block-index l.blocks) ≡ atoms_in l.listing l.blocks
