use Rattle.std.proofs.Common.{◌≡◌, ◌+◌, drop}
use Rattle.listing_lines.specs.Text.{place_of}
use Rattle.listing_lines.proofs.lines.place_of.Given as goal

abbrev pub invariant-loop-i : goal.invariant-loop-i
invariant-loop-i l = place_of l.x l.bytes ≡ l.i + place_of l.x (drop l.i l.bytes)
