use Rattle.std.proofs.lemmas.Result.{IfOk-weaker}
use Rattle.pipeline.proofs.Numbered.{numbers_of}
use Rattle.pipeline.proofs.generated.generated_numbers.Goals as goal

pub returns : goal.returns
returns c =
    IfOk-weaker c.numbers.result _ _
    (λ text h.
    numbers_of c.args.number c.in-Ok.accepted text.items h.0 c.in-Ok.ensures.listing c.in-Ok.ensures.passed h.1.0 h.1.1)
    c.numbers.ensures
