use Rattle.std.proofs.Common.{rules}
use Rattle.rule_views.specs.Sees.{IsSame}
use Rattle.rule_conditions.proofs.Bounds.{signed_itself_fires}
use Rattle.rule_conditions.proofs.comparisons.signed_with_itself.Goals as goal

pub returns : goal.returns
returns g c =
    let same : IsSame g.V.View.Sees c.args.a c.args.b = c.same.ensures.yes (search rules) in
    signed_itself_fires g.V.View.Sees c.args.a c.args.b c.args.op c.of_itself_signed.result c.of_test-test.result same c.of_itself_signed.ensures
    c.of_test-test.ensures.width c.of_test-test.ensures.value
