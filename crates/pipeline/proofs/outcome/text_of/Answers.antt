use Rattle.std.proofs.Common.{subst, sym}
use Rattle.std.proofs.lemmas.Result.{IfErr-weaker}
use Rattle.pipeline.specs.declared.request.Form.{Form}
use Rattle.pipeline.specs.Cause.{CauseAt}
use Rattle.pipeline.proofs.Outcomes.{accepted_never, plain_never}
use Rattle.pipeline.proofs.outcome.text_of.Goals as goal

pub returns-in-C-clause-refused : goal.returns-in-C-clause-refused
returns-in-C-clause-refused c =
    let bytes = c.args.bytes.now in
    IfErr-weaker c.decompile.result _ _
    (λ fault cause. subst (λ (f : Form). CauseAt f bytes fault) (sym c.in-C.is) (accepted_never bytes fault cause))
    c.decompile.ensures.refused

pub returns-in-Plain-clause-refused : goal.returns-in-Plain-clause-refused
returns-in-Plain-clause-refused c =
    let bytes = c.args.bytes.now in
    IfErr-weaker c.decompile-in-Plain.result _ _
    (λ fault cause. subst (λ (f : Form). CauseAt f bytes fault) (sym c.in-Plain.is)
    (plain_never bytes fault (accepted_never bytes fault cause)))
    c.decompile-in-Plain.ensures.refused
