use Rattle.std.proofs.Common.{◌≡◌, ◌++◌, drop}
use Rattle.frames.specs.Walk.{signed_of}
use Rattle.frames.proofs.escapes.push_ranges.Given as goal

abbrev pub invariant-loop-range : goal.invariant-loop-range
invariant-loop-range l =
    l.escapes.items ++ signed_of l.listing l.slots l.row (drop l.range-index l.ranges)
    ≡ l.fn.escapes.items ++ signed_of l.listing l.slots l.row l.ranges
