use Rattle.std.proofs.Common.{◌≡◌, ◌≤◌, ◌+◌, length}
use Rattle.listing_lines.specs.Text.{lines_of}
use Rattle.line_reader.specs.Reading.{advanced, progress}
use Rattle.line_reader.specs.Reading.Progress.{Going}
use Rattle.line_reader.proofs.reader.read_lines.Given as goal

abbrev pub invariant-loop-rest : goal.invariant-loop-rest
invariant-loop-rest g l =
    let step = g.R.LineReader.step_of l.reader in
    record {
      same : progress step l.initial.state l.bytes ≡ advanced step (Going l.line_number l.state) (lines_of l.rest);
      few : l.line_number + length l.rest ≤ length l.bytes + 1;
    }

abbrev pub decreases-loop-rest : goal.decreases-loop-rest
decreases-loop-rest g l = length l.rest
