use Rattle.cmeaning.proofs.Runs as runs
use Rattle.cmeaning.proofs.worked.register_as_memory.Goals as goal

pub returns : goal.returns
returns c = runs.register_as_memory
