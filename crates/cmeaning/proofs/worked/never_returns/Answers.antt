use Rattle.cmeaning.proofs.Runs as runs
use Rattle.cmeaning.proofs.worked.never_returns.Goals as goal

pub returns : goal.returns
returns c = runs.never_returns
