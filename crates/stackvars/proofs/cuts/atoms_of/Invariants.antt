use Rattle.std.proofs.Common.{◌≡◌, ◌++◌, drop}
use Rattle.std.specs.List.{AllByRecursion}
use Rattle.stackvars.specs.Cuts.{Fits, atoms_of}
use Rattle.stackvars.proofs.cuts.atoms_of.Given as goal

abbrev pub invariant-loop-piece : goal.invariant-loop-piece
invariant-loop-piece l =
    (l.atoms.items ++ atoms_of (drop l.piece-index l.pieces) ≡ atoms_of l.pieces)
    × AllByRecursion Fits (drop l.piece-index l.pieces)
