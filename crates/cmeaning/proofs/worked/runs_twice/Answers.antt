use Rattle.cmeaning.proofs.Runs as runs
use Rattle.cmeaning.proofs.worked.runs_twice.Goals as goal

pub returns : goal.returns
returns c = runs.runs_twice
