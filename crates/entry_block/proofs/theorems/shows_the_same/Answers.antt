use Rattle.entry_block.proofs.Shows.{apart_shows}
use Rattle.entry_block.proofs.theorems.shows_the_same.Goals as goal

pub returns : goal.returns
returns c = λ l k e numbered defined. apart_shows l k numbered e defined
