use Rattle.edges.proofs.Small as small
use Rattle.edges.proofs.laws.around_loop.Goals as goal

pub returns : goal.returns
returns c = small.around_loop
