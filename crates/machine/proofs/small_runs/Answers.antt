use Rattle.machine.proofs.Examples as examples
use Rattle.machine.proofs.small_runs.Goals as goal

pub returns : goal.returns
returns c = examples.small_runs
