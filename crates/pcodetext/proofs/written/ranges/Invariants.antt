use Rattle.std.proofs.Common.{◌≡◌, length}
use Rattle.listing_lines.specs.Text.{left}
use Rattle.pcodetext.specs.Written.{ranges_of}
use Rattle.pcodetext.proofs.Joining.{joined}
use Rattle.pcodetext.proofs.written.ranges.Given as goal

abbrev pub invariant-loop-part : goal.invariant-loop-part
invariant-loop-part l = ranges_of l.spaces (left 32 l.line) ≡ joined l.found (ranges_of l.spaces (left 32 l.rest))

abbrev pub decreases-loop-part : goal.decreases-loop-part
decreases-loop-part l = length l.rest
