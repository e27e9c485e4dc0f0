use Rattle.std.proofs.Common.{rules}
use Rattle.rule_views.specs.Beside.{IsSum}
use Rattle.rule_sums.proofs.Summed.{nested_fires}
use Rattle.rule_sums.proofs.sums.nested_sum.Goals as goal

pub returns : goal.returns
returns g c =
    let outer : IsSum c.args.op = search rules in
    let inner : IsSum c.in_ok-inner.inner = search rules in
    nested_fires g.V.View.Sees c.args.op c.args.a c.args.d c.in_ok-inner.inner c.nested-to.result.0 c.in_ok-inner.x
    c.in_ok-inner.c c.nested-to.result.1 outer inner c.in_ok-inner.ensures c.nested-to.ensures
