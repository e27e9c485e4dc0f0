use Rattle.std.proofs.Common.{◌∙◌, ap, ◌+◌, ◌-◌, ◌^◌}
use Rattle.std.specs.Int.{cast_signed, w128}
use Rattle.bits_core.specs.Value.{half, signed}
use Rattle.bits_core.proofs.Machine.{signed_wide, signed_short, same_signed, when_high, when_low}
use Rattle.bits_core.proofs.word.Word.signed.Goals as goal

pub returns-then-is_negative : goal.returns-then-is_negative
returns-then-is_negative c =
    let w = c.args.self.width in
    let a = c.args.self.value in
    let high = when_high c.is_negative.result (half w.bytes) a c.is_negative.ensures c.if-is_negative.true in
    same_signed c.cast_signed.result (signed w.bytes a) c.cast_signed.type_inv
    (c.cast_signed.ensures ∙ ap (λ m. cast_signed w128 (a + (2 ^ 128 - 1 - m))) c.mask.ensures ∙ signed_wide w.bytes a w.from w.to high c.args.self.below)

pub returns-else-is_negative : goal.returns-else-is_negative
returns-else-is_negative c =
    let w = c.args.self.width in
    let a = c.args.self.value in
    let low = when_low c.is_negative.result (half w.bytes) a c.is_negative.ensures c.if-is_negative.false in
    same_signed c.cast_signed-else-is_negative.result (signed w.bytes a) c.cast_signed-else-is_negative.type_inv
    (c.cast_signed-else-is_negative.ensures ∙ signed_short w.bytes a w.from w.to low)
