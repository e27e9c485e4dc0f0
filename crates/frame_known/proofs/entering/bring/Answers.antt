use Rattle.frame_known.proofs.Brought.{brought_new}
use Rattle.frame_known.proofs.entering.bring.Goals as goal

pub returns-in_ok-copied-in-None : goal.returns-in_ok-copied-in-None
returns-in_ok-copied-in-None c =
    brought_new c.args.row.now c.args.out.now c.in_ok-copied-in-None.field-0 c.in-None.is
    (c.in_ok-copied-in-None.ensures {u = tt})
