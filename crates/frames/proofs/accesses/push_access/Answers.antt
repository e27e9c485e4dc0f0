use Rattle.std.proofs.Common.{sym}
use Rattle.frames.proofs.Low.{known_low}
use Rattle.frames.proofs.accesses.push_access.Goals as goal

pub signed-offset-requires-clause-low : goal.signed-offset-requires-clause-low
signed-offset-requires-clause-low c =
    known_low c.args.listing.now c.args.slots.now c.args.row.now c.args.base c.in-Some.known _ c.requires.read
    c.requires.slots c.requires.row (sym (c.in-Some.ensures {u = tt}))
