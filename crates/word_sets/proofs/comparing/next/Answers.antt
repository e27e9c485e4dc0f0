use Rattle.std.proofs.Common.{◌<◌, ap, ◌∙◌, arith}
use Rattle.std.proofs.Math.Nat.{mod-eq_of_lt}
use Rattle.bits_core.specs.Value.{limit, add}
use Rattle.bits_core.proofs.Limits.{limit_least}
use Rattle.word_sets.proofs.comparing.next.Goals as goal

pub returns-clause-value : goal.returns-clause-value
returns-clause-value c =
    let low : 1 < limit c.args.a.width.bytes = omega (arith, limit_least c.args.a.width.bytes c.args.a.width.from) in
    c.binary.ensures.value
    ∙ ap (λ n. add c.args.a.width.bytes c.args.a.value n) (c.new.ensures.value ∙ mod-eq_of_lt low)
