use Rattle.listing_lines.proofs.Digits.{HasRead}
use Rattle.entrytext.proofs.words.number.Given as goal

abbrev pub invariant-loop-b : goal.invariant-loop-b
invariant-loop-b l = HasRead 16 l.n l.b-index l.digits
