use Rattle.std.proofs.Common.{subst}
use Rattle.line_reader.specs.Reading.{concluded, progress}
use Rattle.entrytext.specs.declared.partial_entry.PartialEntry.{PartialEntry}
use Rattle.entrytext.specs.Meaning.{fault_at, finished, step}
use Rattle.entrytext.specs.Reader.{IsFaultOf}
use Rattle.entrytext.proofs.Whole.{result_lies}
use Rattle.entrytext.proofs.reader.read_entry.Goals as goal

pub returns-in-Ok-read_lines-clause-lies : goal.returns-in-Ok-read_lines-clause-lies
returns-in-Ok-read_lines-clause-lies c =
    result_lies c.args.listing.now c.requires.formed c.args.bytes.now _ _ _ c.finish.result
    c.new-entry.ensures c.in-Ok-read_lines.ensures.whole c.finish.ensures.good

pub returns-clause-bad : goal.returns-clause-bad
returns-clause-bad c =
    let step_of = step c.args.listing.now in
    let bytes = c.args.bytes.now in
    let P : PartialEntry → Type 0 =
    λ b. IsFaultOf (concluded fault_at finished (progress step_of b bytes)) c.stop_fault.result in
    subst P c.new-entry.ensures
    (c.stop_fault.ensures (progress step_of c.new-entry.result bytes) c.in-Err-read_lines.ensures.stopped)
