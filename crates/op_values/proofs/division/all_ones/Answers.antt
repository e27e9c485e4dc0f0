use Rattle.std.proofs.Common.{◌≡◌, ◌-◌, ap, ◌∙◌, arith}
use Rattle.std.proofs.Math.Nat.{mod-eq_of_lt}
use Rattle.bits_core.proofs.Limits.{limit_pos}
use Rattle.bits_core.specs.Value.{limit, complement}
use Rattle.op_values.proofs.division.all_ones.Goals as goal

pub returns : goal.returns
unfolding complement
returns c =
    let w = c.args.width.bytes in
    let zero : c.new.result.value ≡ 0 = c.new.ensures.value ∙ mod-eq_of_lt (limit_pos w) in
    let less : limit w - 1 - 0 ≡ limit w - 1 = omega arith in
    c.unary.ensures.value ∙ ap (λ a. limit w - 1 - a) zero ∙ less
