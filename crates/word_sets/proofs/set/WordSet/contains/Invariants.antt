use Rattle.std.proofs.Common.{◌≡◌, take}
use Rattle.word_sets.specs.Turns.{turned}
use Rattle.word_sets.proofs.set.WordSet.contains.Given as goal

abbrev pub invariant-loop-turn : goal.invariant-loop-turn
invariant-loop-turn l = l.is_in ≡ turned l.self.first (take l.turn-index l.turns) l.word
