use Rattle.std.proofs.Common.{rules}
use Rattle.rule_views.specs.Sees.{IsConstant}
use Rattle.rule_find.specs.Found.{ChangesOver}
use Rattle.rule_find.proofs.Turning.{both, over_fires}
use Rattle.rule_find.proofs.orders.changed_over.Goals as goal

pub returns-in-None : goal.returns-in-None
returns-in-None g c =
    let changes : ChangesOver c.args.p = search rules in
    over_fires g.V.View.Sees c.args.a c.args.b c.args.p c.in_ok-c.c changes c.in_ok-c.ensures
    (c.in-None.ensures {u = tt})

pub returns-in-Some : goal.returns-in-Some
returns-in-Some g c changes =
    let sees = g.V.View.Sees in
    let const : IsConstant sees c.args.b c.in-Some.field-0 = search rules in
    both sees c.args.a c.args.b c.in-Some.field-0 const
