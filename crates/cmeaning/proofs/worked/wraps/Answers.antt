use Rattle.cmeaning.proofs.Runs as runs
use Rattle.cmeaning.proofs.worked.wraps.Goals as goal

pub returns : goal.returns
returns c = runs.wraps
