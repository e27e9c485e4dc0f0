use Rattle.frame_known.proofs.Passed.{slot_offset, no_offset}
use Rattle.frame_known.proofs.rows.offset.Goals as goal

pub returns-in-Some : goal.returns-in-Some
returns-in-Some c =
    slot_offset c.args.slots.now c.args.row.now c.args.range c.in-Some.slot c.requires.slots c.requires.long
    (c.in-Some.ensures {u = tt})

pub returns-in-None : goal.returns-in-None
returns-in-None c = no_offset c.args.slots.now c.args.row.now c.args.range (c.in-None.ensures {u = tt})
