use Rattle.machine.proofs.Examples as examples
use Rattle.machine.proofs.small_agreements.Goals as goal

pub returns : goal.returns
returns c = examples.small_agreements
