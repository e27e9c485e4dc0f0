use Rattle.std.proofs.Common.{length, ◌-◌, ◌+◌}
use Rattle.word_sets.proofs.Scanning.{Scanning}
use Rattle.word_sets.proofs.words.few_words.Given as goal

abbrev pub invariant-words : goal.invariant-words
invariant-words l = Scanning l.set.first l.turns l.top l.most l.i l.is_in l.word l.out.items

abbrev pub decreases-words : goal.decreases-words
decreases-words l = (length l.turns - l.i) + (l.most - length l.out.items)
