-- Sets of words.
use Rattle.std.specs.Prelude.{ℕ, Bool}
use Rattle.word_sets.specs.declared.set.WordSet.{WordSet}
use Rattle.word_sets.specs.Turns.{turned}

-- whether the set has the word v
abbrev pub has : WordSet → ℕ → Bool
has s v = turned s.first s.turns.items v
