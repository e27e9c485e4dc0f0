use Rattle.cread.proofs.Whole.{one_tree}
use Rattle.cread.proofs.read.one_tree.Goals as goal

pub returns : goal.returns
returns c = one_tree
