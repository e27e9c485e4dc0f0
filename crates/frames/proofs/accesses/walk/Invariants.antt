use Rattle.std.proofs.Common.{◌≡◌, ◌++◌, drop}
use Rattle.frames.specs.Walk.{accesses_found}
use Rattle.frames.proofs.accesses.walk.Given as goal

abbrev pub invariant-loop-number : goal.invariant-loop-number
invariant-loop-number l =
    l.accesses.items ++ accesses_found l.listing l.known.slots (drop l.number l.known.rows.items) (drop l.number l.blocks)
    ≡ accesses_found l.listing l.known.slots l.known.rows.items l.blocks
