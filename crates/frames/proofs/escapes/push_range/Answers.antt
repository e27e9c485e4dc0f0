use Rattle.std.proofs.Common.{sym}
use Rattle.frames.proofs.Low.{known_below}
use Rattle.frames.proofs.escapes.push_range.Goals as goal

pub signed-requires-clause-low : goal.signed-requires-clause-low
signed-requires-clause-low c =
    known_below c.args.listing.now c.args.slots.now c.args.row.now c.args.range c.in-Some.known c.requires.read
    c.requires.slots c.requires.row (sym (c.in-Some.ensures {u = tt}))
