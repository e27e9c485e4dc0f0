use Rattle.std.proofs.Common.{◌≡◌, ◌++◌, drop}
use Rattle.stackvars.specs.Collected.{atoms_of}
use Rattle.stackvars.proofs.ranges.push_ranges.Given as goal

abbrev pub invariant-loop-range : goal.invariant-loop-range
invariant-loop-range l =
    l.out.items ++ atoms_of l.listing (drop l.range-index l.ranges) ≡ l.fn.out.items ++ atoms_of l.listing l.ranges
