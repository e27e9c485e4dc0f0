use Rattle.frame_known.proofs.Found.{get_in}
use Rattle.std.proofs.Common.{◌<◌, subst}
use Rattle.frame_known.specs.Rows.{IsBelow}
use Rattle.frames.proofs.Low.{slot_low}
use Rattle.frames.proofs.facts.push_fact.Goals as goal

pub range-requires-clause-low : goal.range-requires-clause-low
range-requires-clause-low c = c.requires.slots.low _ (get_in c.args.slots.now.keys.items c.args.slot c.requires.slot)

pub signed-requires-clause-low : goal.signed-requires-clause-low
signed-requires-clause-low c =
    let low : c.in-Some.offset < c.args.slots.now.offsets = subst (IsBelow c.args.slots.now.offsets) c.in-Some.is c.requires.below in
    slot_low c.args.listing.now c.requires.read c.args.slots.now _ c.in-Some.offset c.requires.slots
    (get_in c.args.slots.now.keys.items c.args.slot c.requires.slot) low
