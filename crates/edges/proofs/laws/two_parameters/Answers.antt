use Rattle.edges.proofs.Small as small
use Rattle.edges.proofs.laws.two_parameters.Goals as goal

pub returns : goal.returns
returns c = small.two_parameters
