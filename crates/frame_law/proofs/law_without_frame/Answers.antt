use Rattle.frame_law.proofs.Keeps as keeps
use Rattle.frame_law.proofs.law_without_frame.Goals as goal

pub returns : goal.returns
returns c = keeps.law_without_frame
