use Rattle.cmeaning.proofs.Runs as runs
use Rattle.cmeaning.proofs.worked.read_only_store.Goals as goal

pub returns : goal.returns
returns c = runs.read_only_store
