use Rattle.machine.proofs.TwoWay.{two_way_bare, loose_two_way_as}
use Rattle.machine.proofs.words_may_be_dropped.Goals as goal

pub returns : goal.returns
returns c = record { from_both = two_way_bare; loose = loose_two_way_as }
