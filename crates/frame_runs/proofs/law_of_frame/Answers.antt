use Rattle.frame_runs.proofs.Guided as guided
use Rattle.frame_runs.proofs.law_of_frame.Goals as goal

pub returns : goal.returns
returns c = guided.law_of_frame
