use Rattle.statuses.specs.Answer.{answer_of}
use Rattle.pipeline.proofs.Outcomes.{refused_so}
use Rattle.pipeline.proofs.outcome.converted.Goals as goal

pub returns-in-Err : goal.returns-in-Err
returns-in-Err c =
    refused_so c.args.form c.args.bytes.now c.in-Err.refusal (answer_of c.refused.result) c.in-Err.ensures.refused
    c.refused.ensures
