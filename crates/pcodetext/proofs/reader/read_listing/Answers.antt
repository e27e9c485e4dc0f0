use Rattle.std.proofs.Common.{subst}
use Rattle.line_reader.specs.Reading.{concluded, progress}
use Rattle.pcodetext.specs.declared.partial_listing.PartialListing.{PartialListing}
use Rattle.pcodetext.specs.Meaning.{fault_at, finished, step}
use Rattle.pcodetext.specs.Reader.{IsFaultOf}
use Rattle.pcodetext.proofs.Whole.{result_formed}
use Rattle.pcodetext.proofs.reader.read_listing.Goals as goal

pub returns-in-Ok-read_lines-clause-formed : goal.returns-in-Ok-read_lines-clause-formed
returns-in-Ok-read_lines-clause-formed c =
    result_formed c.args.bytes.now _ _ _ c.finish.result
    c.in-Ok.ensures c.in-Ok-read_lines.ensures.whole c.finish.ensures.good

pub returns-in-Err-read_lines-clause-bad : goal.returns-in-Err-read_lines-clause-bad
returns-in-Err-read_lines-clause-bad c =
    let bytes = c.args.bytes.now in
    let P : PartialListing → Type 0 =
    λ b. IsFaultOf (concluded fault_at finished (progress step b bytes)) c.stop_fault.result in
    subst P c.in-Ok.ensures
    (c.stop_fault.ensures (progress step c.in-Ok.said bytes) c.in-Err-read_lines.ensures.stopped)
