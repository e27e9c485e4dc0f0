use Rattle.std.proofs.Common.{rules}
use Rattle.rule_views.specs.Beside.{NoArithmetic}
use Rattle.rule_views.specs.Sees.{NoPair}
use Rattle.rule_views.proofs.Fire.{no_pair_arithmetic}
use Rattle.rule_views.proofs.looks.arithmetic.Goals as goal

pub returns-in_err-node : goal.returns-in_err-node
returns-in_err-node g c =
    let none : NoPair g.V.View.Sees c.args.at = search rules in
    let no : NoArithmetic g.V.View.Sees c.args.at = no_pair_arithmetic g.V.View.Sees c.args.at none in
    search rules
