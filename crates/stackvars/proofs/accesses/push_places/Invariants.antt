use Rattle.std.proofs.Common.{◌≡◌, ◌++◌, drop}
use Rattle.stackvars.specs.Collected.{atoms_at}
use Rattle.stackvars.proofs.accesses.push_places.Given as goal

abbrev pub invariant-loop-place : goal.invariant-loop-place
invariant-loop-place l =
    l.out.items ++ atoms_at l.listing (drop l.place-index l.places) ≡ l.fn.out.items ++ atoms_at l.listing l.places
