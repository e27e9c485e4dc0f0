use Rattle.std.proofs.Common.{rules}
use Rattle.rules.specs.Letters.{IsEquality}
use Rattle.rule_views.specs.Beside.{IsSum}
use Rattle.rule_conditions.proofs.Compared.{moved_fires}
use Rattle.rule_conditions.proofs.comparisons.sum_compared.Goals as goal

pub returns : goal.returns
returns g c =
    let equality : IsEquality c.args.op = search rules in
    let inner : IsSum c.in_ok-inner.inner = search rules in
    moved_fires g.V.View.Sees c.args.op c.args.a c.args.d c.in_ok-inner.inner c.in_ok-inner.x c.in_ok-inner.c
    c.moved-e.result equality inner c.in_ok-inner.ensures c.moved-e.ensures
