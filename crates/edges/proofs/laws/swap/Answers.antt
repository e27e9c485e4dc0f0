use Rattle.edges.proofs.Swap.{swaps}
use Rattle.edges.proofs.laws.swap.Goals as goal

pub returns : goal.returns
returns c = swaps
