use Rattle.frame_law.proofs.Worked as worked
use Rattle.frame_law.proofs.worked_frame.Goals as goal

pub returns : goal.returns
returns c = worked.worked_frame
