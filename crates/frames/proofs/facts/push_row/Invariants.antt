use Rattle.std.proofs.Common.{◌≡◌, ◌++◌, drop}
use Rattle.frames.specs.Walk.{facts_of}
use Rattle.frames.proofs.facts.push_row.Given as goal

abbrev pub invariant-loop-slot : goal.invariant-loop-slot
invariant-loop-slot l =
    l.facts.items ++ facts_of l.listing l.place l.slots.width (drop l.slot l.slots.keys.items) (drop l.slot l.row)
    ≡ l.fn.facts.items ++ facts_of l.listing l.place l.slots.width l.slots.keys.items l.row
