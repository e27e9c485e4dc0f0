use Rattle.std.proofs.Common.{map, string_bytes}
use Rattle.runwords.proofs.Exact.{judged}
use Rattle.runwords.specs.Fetched.{AllFetched}
use Rattle.runwords.specs.Request.{asked_by}
use Rattle.statuses.specs.Answer.{answer_of}
use Rattle.side_by_side.specs.Judged.{Faults, Shows}
use Rattle.side_by_side.proofs.top.work_out.Goals as goal

pub returns-in-Ok-clause-because : goal.returns-in-Ok-clause-because
returns-in-Ok-clause-because g c =
    judged Shows Faults (asked_by (map string_bytes c.args.words.now))
    (λ a came. AllFetched a (g.H.Source.told c.args.shelf.now) (g.H.Source.told c.gather.new.shelf) came)
    c.in-Ok.gathered (answer_of c.judge.result) c.in-Ok.ensures.inputs c.judge.ensures
