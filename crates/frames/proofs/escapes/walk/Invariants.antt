use Rattle.std.proofs.Common.{◌≡◌, ◌++◌, drop}
use Rattle.frames.specs.Walk.{escapes_found}
use Rattle.frames.proofs.escapes.walk.Given as goal

abbrev pub invariant-loop-number : goal.invariant-loop-number
invariant-loop-number l =
    l.escapes.items ++ escapes_found l.listing l.known.slots (drop l.number l.known.rows.items) (drop l.number l.blocks)
    ≡ escapes_found l.listing l.known.slots l.known.rows.items l.blocks
