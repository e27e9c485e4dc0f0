use Rattle.cmeaning.proofs.Runs as runs
use Rattle.cmeaning.proofs.worked.undefined_runs.Goals as goal

pub returns : goal.returns
returns c = runs.undefined_runs
