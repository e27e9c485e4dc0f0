use Rattle.cmeaning.proofs.Runs as runs
use Rattle.cmeaning.proofs.worked.left_by_call.Goals as goal

pub returns : goal.returns
returns c = runs.left_by_call
