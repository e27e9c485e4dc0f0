use Rattle.std.proofs.Common.{rules}
use Rattle.rule_views.specs.Sees.{NoPair}
use Rattle.rule_conditions.specs.Tests.{NoComparison}
use Rattle.rule_conditions.proofs.Decided.{no_pair_compared}
use Rattle.rule_conditions.proofs.booleans.negation.Goals as goal

pub returns-in_err-node : goal.returns-in_err-node
returns-in_err-node g c =
    let none : NoPair g.V.View.Sees c.args.at = search rules in
    let no : NoComparison g.V.View.Sees c.args.at = no_pair_compared g.V.View.Sees c.args.at none in
    search rules
