use Rattle.machine.proofs.TwoWay.{end_stays}
use Rattle.machine.proofs.ends_stay.Goals as goal

pub returns : goal.returns
returns c = end_stays
