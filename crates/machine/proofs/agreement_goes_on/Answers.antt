use Rattle.machine.proofs.Agree.{agree_along, agree_loosely}
use Rattle.machine.proofs.agreement_goes_on.Goals as goal

pub returns : goal.returns
returns c = record { along = agree_along; loose = agree_loosely }
