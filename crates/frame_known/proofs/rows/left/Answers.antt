use Rattle.frame_known.proofs.Found.{get_in}
use Rattle.frame_known.proofs.rows.left.Goals as goal

pub range-requires-clause-low : goal.range-requires-clause-low
range-requires-clause-low c = c.requires.slots.low _ (get_in c.args.slots.now.keys.items c.args.slot c.requires.inside)
