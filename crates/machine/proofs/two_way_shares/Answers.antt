use Rattle.machine.proofs.TwoWay.{end_along, never_ends_along, events_along}
use Rattle.machine.proofs.two_way_shares.Goals as goal

pub returns : goal.returns
returns c = record { ends = end_along; never = never_ends_along; events = events_along }
