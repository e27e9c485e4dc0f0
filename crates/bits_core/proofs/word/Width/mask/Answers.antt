use Rattle.std.proofs.Common.{◌∙◌, ap, ◌-◌, ◌^◌, ◌/◌}
use Rattle.bits_core.proofs.Machine.{mask_is}
use Rattle.bits_core.proofs.word.Width.mask.Goals as goal

pub returns : goal.returns
returns c = ap (λ k. (2 ^ 128 - 1) / 2 ^ (128 - k)) c.bits.ensures ∙ mask_is c.args.self.bytes c.args.self.to
