use Rattle.std.proofs.Common.{◌∙◌, ap, ◌%◌}
use Rattle.bits_core.specs.Value.{limit, neg}
use Rattle.bits_core.proofs.Division.{quotient_same, quotient_other}
use Rattle.bits_core.proofs.word.Word.signed_quotient.Goals as goal

pub returns-then-is_negative-clause-value : goal.returns-then-is_negative-clause-value
returns-then-is_negative-clause-value c =
    let a = c.args.self in
    let b = c.args.b in
    c.new-size.ensures.value
    ∙ ap (λ n. n % limit a.width.bytes) c.quotient_of.ensures
    ∙ quotient_same a.width.bytes b.width.bytes a.value b.value c.size.result c.size-2.result c.is_negative.result c.is_negative-2.result c.requires.same a.width.from a.below b.below c.is_negative.ensures c.is_negative-2.ensures c.size.ensures c.size-2.ensures c.if-is_negative.true

pub returns-else-is_negative-clause-value : goal.returns-else-is_negative-clause-value
returns-else-is_negative-clause-value c =
    let a = c.args.self in
    let b = c.args.b in
    c.negate.ensures.value
    ∙ ap (λ w. neg w.bytes c.new-size.result.value) c.new-size.ensures.width
    ∙ ap (neg a.width.bytes) (c.new-size.ensures.value ∙ ap (λ n. n % limit a.width.bytes) c.quotient_of.ensures)
    ∙ quotient_other a.width.bytes b.width.bytes a.value b.value c.size.result c.size-2.result c.is_negative.result c.is_negative-2.result c.requires.same a.width.from a.below b.below c.is_negative.ensures c.is_negative-2.ensures c.size.ensures c.size-2.ensures c.if-is_negative.false
