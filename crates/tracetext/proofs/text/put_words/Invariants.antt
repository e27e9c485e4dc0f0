use Rattle.std.proofs.Common.{◌≡◌, ◌++◌, drop, map}
use Rattle.tracetext.specs.Text.{words_text}
use Rattle.run_world.specs.Meaning.{value_of}
use Rattle.tracetext.proofs.text.put_words.Given as goal

abbrev pub invariant-loop-w : goal.invariant-loop-w
invariant-loop-w l = l.out.items ++ words_text (map value_of (drop l.w-index l.words))
    ≡ l.initial.out.items ++ words_text (map value_of l.words)
