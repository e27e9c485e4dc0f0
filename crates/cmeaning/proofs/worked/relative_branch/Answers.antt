use Rattle.cmeaning.proofs.Runs as runs
use Rattle.cmeaning.proofs.worked.relative_branch.Goals as goal

pub returns : goal.returns
returns c = runs.relative_branch
