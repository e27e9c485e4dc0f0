use Rattle.std.proofs.Common.{◌≡◌, ◌-◌, ◌≤◌, length, drop}
use Rattle.listing_lines.specs.Tokens.{bytes_of, pairs_of}
use Rattle.listing_lines.proofs.Digits.{joined}
use Rattle.listing_lines.proofs.tokens.pairs.Given as goal

abbrev pub invariant-loop-i : goal.invariant-loop-i
invariant-loop-i l = record { within : l.i ≤ length l.part; same : bytes_of l.part ≡ joined l.bytes.items (pairs_of (drop l.i l.part)) }

abbrev pub decreases-loop-i : goal.decreases-loop-i
decreases-loop-i l = length l.part - l.i
