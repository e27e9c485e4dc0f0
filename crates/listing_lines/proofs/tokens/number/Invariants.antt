use Rattle.listing_lines.proofs.Digits.{HasRead}
use Rattle.listing_lines.proofs.tokens.number.Given as goal

abbrev pub invariant-loop-b : goal.invariant-loop-b
invariant-loop-b l = HasRead l.radix l.n l.b-index l.digits
