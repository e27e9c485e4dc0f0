use Rattle.cmeaning.proofs.Runs as runs
use Rattle.cmeaning.proofs.worked.shift_by_width.Goals as goal

pub returns : goal.returns
returns c = runs.shift_by_width
