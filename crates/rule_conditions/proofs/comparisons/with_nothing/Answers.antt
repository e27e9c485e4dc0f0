use Rattle.rule_conditions.proofs.Bounds.{carried_fires}
use Rattle.rule_conditions.proofs.comparisons.with_nothing.Goals as goal

pub returns : goal.returns
returns g c = carried_fires g.V.View.Sees c.args.a c.args.b c.args.op c.in_ok-_zero._zero c.of_test-never.result
    c.in_ok-_zero.ensures c.of_test-never.ensures.width c.of_test-never.ensures.value
