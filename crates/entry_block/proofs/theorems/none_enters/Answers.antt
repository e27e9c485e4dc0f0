use Rattle.entry_block.proofs.Keeps.{apart}
use Rattle.entry_block.proofs.theorems.none_enters.Goals as goal

pub returns : goal.returns
returns c = λ k numbered b. apart k numbered b
