use Rattle.cmeaning.proofs.Runs as runs
use Rattle.cmeaning.proofs.worked.division_by_zero.Goals as goal

pub returns : goal.returns
returns c = runs.division_by_zero
