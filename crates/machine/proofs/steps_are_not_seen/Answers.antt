use Rattle.machine.proofs.Examples as examples
use Rattle.machine.proofs.steps_are_not_seen.Goals as goal

pub returns : goal.returns
returns c = examples.steps_are_not_seen
