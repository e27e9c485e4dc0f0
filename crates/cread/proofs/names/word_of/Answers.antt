use Rattle.cread.specs.Names.{word_by}
use Rattle.bits_core.proofs.Words.{same_word}
use Rattle.cread.proofs.names.word_of.Goals as goal

pub returns : goal.returns
unfolding word_by
returns c = same_word c.new.result (word_by c.args.width c.args.n) c.new.ensures.value c.new.ensures.width
