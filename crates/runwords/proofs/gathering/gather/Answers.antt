use Rattle.std.proofs.Common.{◌∙◌, List, String, Global, Err, ap, map, string_bytes, sym}
use Rattle.runwords.specs.Request.{asked_by, plan_of}
use Rattle.runwords.proofs.Ending.{ends_so}
use Rattle.runwords.proofs.gathering.gather.Goals as goal

pub returns-in-Err-Fault-clause-ends : goal.returns-in-Err-Fault-clause-ends
returns-in-Err-Fault-clause-ends g c =
    ends_so _ (plan_of c.in-Some.plan) (g.H.Source.told c.args.shelf.now) (g.H.Source.told c.fetch.new.shelf)
    c.fetch.result _
    (ap (λ (ws : List (String Global)). asked_by (map string_bytes ws)) (sym c.as_slice.ensures)
    ∙ sym c.in-Some.ensures) c.fetch.ensures.fetched (c.in-Err-Fault.is ∙ ap Err c.in-Err-Fault.field-0-is)

pub returns-in-Err-TooLong-clause-ends : goal.returns-in-Err-TooLong-clause-ends
returns-in-Err-TooLong-clause-ends g c =
    ends_so _ (plan_of c.in-Some.plan) (g.H.Source.told c.args.shelf.now) (g.H.Source.told c.fetch.new.shelf)
    c.fetch.result _
    (ap (λ (ws : List (String Global)). asked_by (map string_bytes ws)) (sym c.as_slice.ensures)
    ∙ sym c.in-Some.ensures) c.fetch.ensures.fetched (c.in-Err-TooLong.is ∙ ap Err c.in-Err-TooLong.field-0-is)
