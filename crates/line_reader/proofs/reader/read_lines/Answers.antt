use Rattle.line_reader.proofs.Steps.{fails_here}
use Rattle.line_reader.proofs.reader.read_lines.Goals as goal

pub returns-in-Err-clause-stopped : goal.returns-in-Err-clause-stopped
returns-in-Err-clause-stopped g c =
    fails_here (g.R.LineReader.step_of c.args.reader.now) _ _ _
    c.loop-rest.line_number c.loop-rest.state c.step.new.state _ c.in-Err.fault
    c.loop-rest.invariant.same c.split_line.ensures.lines c.in-Err.ensures
