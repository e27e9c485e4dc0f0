use Rattle.std.proofs.Common.{rules}
use Rattle.rule_views.specs.Beside.{NoUnary}
use Rattle.rule_views.specs.Sees.{NoSingle}
use Rattle.rule_views.proofs.Fire.{no_unary}
use Rattle.rule_views.proofs.looks.unary.Goals as goal

pub returns-in_err-node : goal.returns-in_err-node
returns-in_err-node g c =
    let none : NoSingle g.V.View.Sees c.args.at = search rules in
    let no : NoUnary g.V.View.Sees c.args.at = no_unary g.V.View.Sees c.args.at none in
    search rules
