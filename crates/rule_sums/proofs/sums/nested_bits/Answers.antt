use Rattle.std.proofs.Common.{rules, ◌≡◌, subst}
use Rattle.rules.specs.Letters.{IsBitwise}
use Rattle.rule_views.specs.Beside.{IsBeside}
use Rattle.rule_sums.proofs.Summed.{bits_fire}
use Rattle.rule_sums.proofs.sums.nested_bits.Goals as goal

pub returns : goal.returns
returns g c =
    let sees = g.V.View.Sees in
    let bits : IsBitwise c.args.op = search rules in
    let same : c.in_ok-inner.inner ≡ c.args.op = search rules in
    let beside : IsBeside sees c.args.a c.args.op c.in_ok-inner.x c.in_ok-inner.c =
    subst (λ o. IsBeside sees c.args.a o c.in_ok-inner.x c.in_ok-inner.c) same c.in_ok-inner.ensures in
    bits_fire sees c.args.op c.args.a c.args.d c.in_ok-inner.x c.in_ok-inner.c c.folded-e.result bits beside
    c.folded-e.ensures
