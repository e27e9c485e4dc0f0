use Rattle.machine.proofs.TwoWay.{front_refl, front_trans, front_antisym}
use Rattle.machine.proofs.fronts_are_an_order.Goals as goal

pub returns : goal.returns
returns c = record { itself = front_refl; chain = front_trans; both = front_antisym }
