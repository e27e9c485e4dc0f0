use Rattle.std.proofs.Common.{rules, ◌≡◌, ◌<◌, ap, ◌∙◌}
use Rattle.std.proofs.Math.Nat.{mod-eq_of_lt}
use Rattle.bits_core.specs.Value.{limit}
use Rattle.bits_core.specs.Value as V
use Rattle.rule_folds.proofs.values.part.Goals as goal

pub returns : goal.returns
unfolding limit
returns c =
    let small : c.args.k < 256 = search rules in
    let same : c.new.result.value ≡ c.args.k = c.new.ensures.value ∙ mod-eq_of_lt small in
    record {
      width = c.binary.ensures.width;
      value = c.binary.ensures.value ∙ ap (λ n. V.part c.args.c.value n c.args.w.bytes) same;
    }
