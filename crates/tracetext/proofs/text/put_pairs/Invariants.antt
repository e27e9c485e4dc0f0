use Rattle.std.proofs.Common.{◌≡◌, ◌++◌, drop}
use Rattle.tracetext.specs.Text.{pairs_text}
use Rattle.tracetext.proofs.text.put_pairs.Given as goal

abbrev pub invariant-loop-b : goal.invariant-loop-b
invariant-loop-b l = l.out.items ++ pairs_text (drop l.b-index l.bytes) ≡ l.initial.out.items ++ pairs_text l.bytes
