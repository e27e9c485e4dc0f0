use Rattle.std.proofs.Common.{rules, ◌≡◌}
use Rattle.rules.specs.Letters.{IsEquality, Cancels}
use Rattle.rule_conditions.proofs.Compared.{difference_fires}
use Rattle.rule_conditions.proofs.comparisons.difference_of_nothing.Goals as goal

pub returns : goal.returns
returns g c =
    let equality : IsEquality c.args.op = search rules in
    let zero : c.args.c.value ≡ 0 = search rules in
    let cancel : Cancels c.in_ok-inner.inner = search rules in
    difference_fires g.V.View.Sees c.args.op c.args.a c.args.c c.in_ok-inner.inner c.in_ok-inner.x c.in_ok-inner.y equality
    zero cancel c.in_ok-inner.ensures
