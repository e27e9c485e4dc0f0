use Rattle.cmeaning.proofs.Runs as runs
use Rattle.cmeaning.proofs.worked.one_addition.Goals as goal

pub returns : goal.returns
returns c = runs.one_addition
