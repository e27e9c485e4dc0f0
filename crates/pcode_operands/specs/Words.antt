-- What was read. This project's own.
use Rattle.std.specs.Prelude.{ℕ, List, ◌++◌, map, Option, Some, None, Result, Ok, Err}
use Rattle.bits_core.specs.declared.word.Word.{Word}
use Rattle.machine.specs.Trace.{End, Outside}
use Rattle.run_world.specs.Meaning.{value_of}

-- the word that was read, or the end Outside
abbrev pub got_word : Option Word → Result ℕ End
got_word None = Err Outside
got_word (Some w) = Ok w.value

abbrev pub got_words : Option (List Word) → Result (List ℕ) End
got_words None = Err Outside
got_words (Some ws) = Ok (map value_of ws)

-- words before those that are still read
abbrev pub joined : List Word → Result (List ℕ) End → Result (List ℕ) End
joined ws (Ok ns) = Ok (map value_of ws ++ ns)
joined ws (Err e) = Err e
