use Rattle.cmeaning.proofs.Runs as runs
use Rattle.cmeaning.proofs.worked.goes_on_at_zero.Goals as goal

pub returns : goal.returns
returns c = runs.goes_on_at_zero
