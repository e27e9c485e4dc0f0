use Rattle.std.proofs.Common.{take}
use Rattle.frame_known.proofs.Brought.{Bringing}
use Rattle.frame_known.proofs.entering.enter_all.Given as goal

abbrev pub invariant-loop-target : goal.invariant-loop-target
invariant-loop-target l =
    Bringing l.out (take l.target-index l.targets) l.fn.rows.items l.fn.waits.items l.rows.items l.waits.items
