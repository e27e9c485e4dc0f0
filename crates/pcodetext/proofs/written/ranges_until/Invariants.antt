use Rattle.std.proofs.Common.{◌≡◌, length}
use Rattle.listing_lines.specs.Text.{left}
use Rattle.pcodetext.specs.Written.{ranges_until}
use Rattle.pcodetext.proofs.Joining.{joined_before}
use Rattle.pcodetext.proofs.written.ranges_until.Given as goal

abbrev pub invariant-loop-part : goal.invariant-loop-part
invariant-loop-part l =
    ranges_until l.word l.spaces (left 32 l.line)
    ≡ joined_before l.found (ranges_until l.word l.spaces (left 32 l.rest))

abbrev pub decreases-loop-part : goal.decreases-loop-part
decreases-loop-part l = length l.rest
