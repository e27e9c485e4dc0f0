use Rattle.edges.proofs.Small as small
use Rattle.edges.proofs.laws.lost_copy.Goals as goal

pub returns : goal.returns
returns c = small.lost_copy
