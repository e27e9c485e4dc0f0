use Rattle.std.proofs.Common.{◌∙◌}
use Rattle.bits_core.proofs.Operations.{sright_by}
use Rattle.bits_core.proofs.word.Word.signed_right.Goals as goal

pub returns-clause-value : goal.returns-clause-value
returns-clause-value c =
    let a = c.args.self in
    c.of_signed.ensures.value ∙ sright_by a.width.bytes a.value c.args.by c.min.result c.signed.result a.width.to c.signed.type_inv c.signed.ensures c.min.ensures
