use Rattle.std.proofs.Common.{◌≡◌, ◌-◌, ◌∙◌, arith}
use Rattle.std.proofs.Math.Nat.{zero-mod}
use Rattle.bits_core.specs.Value.{limit, complement}
use Rattle.rule_sums.proofs.constants.ones.Goals as goal

pub returns : goal.returns
unfolding complement
returns c =
    let zero : c.new.result.value ≡ 0 = c.new.ensures.value ∙ zero-mod (limit c.args.width.bytes) in
    let is : c.unary.result.value ≡ limit c.args.width.bytes - 1 - c.new.result.value = c.unary.ensures.value in
    omega arith
