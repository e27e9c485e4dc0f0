use Rattle.words.proofs.Rows as rows
use Rattle.words.proofs.worked.words_taken.Goals as goal

pub returns : goal.returns
returns c = rows.taken
