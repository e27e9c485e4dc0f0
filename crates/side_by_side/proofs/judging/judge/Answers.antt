use Rattle.statuses.specs.Answer.{answer_of}
use Rattle.side_by_side.proofs.Judgement.{shows}
use Rattle.side_by_side.proofs.judging.judge.Goals as goal

pub returns-in-Ok : goal.returns-in-Ok
returns-in-Ok c =
    let p = c.in-Ok.parsed in
    shows c.args.inputs.now p.listing p.function p.entry c.args.steps (answer_of c.shown.result) c.in-Ok.ensures.parsed
    c.shown.ensures
