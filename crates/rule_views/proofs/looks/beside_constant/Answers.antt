use Rattle.rule_views.proofs.Fire.{beside_neither, beside_difference}
use Rattle.rule_views.proofs.looks.beside_constant.Goals as goal

pub returns-in-Sub : goal.returns-in-Sub
returns-in-Sub g c = beside_difference g.V.View.Sees c.args.at c.in_ok-op.a c.in_ok-op.b c.in_ok-op.op c.in_ok-op.ensures
    (c.in_default.ensures {u = tt}) c.in-Sub.is

pub returns-in-None : goal.returns-in-None
returns-in-None g c = beside_neither g.V.View.Sees c.args.at c.in_ok-op.a c.in_ok-op.b c.in_ok-op.op c.in_ok-op.ensures
    (c.in_default.ensures {u = tt}) (c.in-None.ensures {u = tt})
