use Rattle.std.proofs.Common.{◌≡◌, ◌++◌, drop}
use Rattle.frames.specs.Walk.{facts_found}
use Rattle.frames.proofs.facts.walk.Given as goal

abbrev pub invariant-loop-number : goal.invariant-loop-number
invariant-loop-number l =
    l.facts.items ++ facts_found l.listing l.known.slots (drop l.number l.known.rows.items) (drop l.number l.blocks)
    ≡ facts_found l.listing l.known.slots l.known.rows.items l.blocks
