use Rattle.cmeaning.proofs.Runs as runs
use Rattle.cmeaning.proofs.worked.calls.Goals as goal

pub returns : goal.returns
returns c = runs.calls
