use Rattle.machine.proofs.Agree.{agree_by_frame}
use Rattle.machine.proofs.frame_gives_agreement.Goals as goal

pub returns : goal.returns
returns c = agree_by_frame
