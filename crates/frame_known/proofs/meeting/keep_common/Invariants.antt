use Rattle.frame_known.proofs.Joined.{Joining}
use Rattle.frame_known.proofs.meeting.keep_common.Given as goal

abbrev pub invariant-loop-slot : goal.invariant-loop-slot
invariant-loop-slot l = Joining l.fn.row l.other l.slot l.less l.row
