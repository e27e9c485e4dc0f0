use Rattle.frame_runs.proofs.Law.{facts_law}
use Rattle.frame_runs.proofs.facts_hold.Goals as goal

pub returns : goal.returns
returns c = facts_law
