use Rattle.listing_lines.proofs.Digits.{HasRead}
use Rattle.words.proofs.number.number_in.Given as goal

abbrev pub invariant-loop-b : goal.invariant-loop-b
invariant-loop-b l = HasRead 10 l.n l.b-index l.digits
