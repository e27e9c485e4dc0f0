use Rattle.machine.proofs.TwoWay.{two_way_refl, two_way_sym, two_way_trans}
use Rattle.machine.proofs.two_way_composes.Goals as goal

pub returns : goal.returns
returns c = record { itself = two_way_refl; turned = two_way_sym; chain = two_way_trans }
