use Rattle.frame_runs.proofs.Cases as cases
use Rattle.frame_runs.proofs.worked_facts.Goals as goal

pub returns : goal.returns
returns c = cases.worked_facts
