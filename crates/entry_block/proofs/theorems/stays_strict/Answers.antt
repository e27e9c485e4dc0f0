use Rattle.entry_block.proofs.Keeps.{apart_strict}
use Rattle.entry_block.proofs.theorems.stays_strict.Goals as goal

pub returns : goal.returns
returns c = λ l k e numbered strict. apart_strict k numbered l e strict
