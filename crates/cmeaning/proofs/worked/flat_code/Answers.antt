use Rattle.cmeaning.proofs.Runs as runs
use Rattle.cmeaning.proofs.worked.flat_code.Goals as goal

pub returns : goal.returns
returns c = runs.flat_code
