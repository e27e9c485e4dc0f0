use Rattle.std.proofs.Common.{subst, sym}
use Rattle.pipeline.specs.Cause.{CauseAt}
use Rattle.pipeline.specs.declared.request.Form.TheVariants.{Listing}
use Rattle.pipeline.proofs.Outcomes.{text_refused}
use Rattle.pipeline.proofs.outcome.canonical.Goals as goal

pub returns-in-Err-clause-refused : goal.returns-in-Err-clause-refused
returns-in-Err-clause-refused c =
    subst (CauseAt Listing c.args.bytes.now) (sym c.from.ensures)
    (text_refused c.args.bytes.now c.in-Err.fault c.in-Err.ensures.bad)
