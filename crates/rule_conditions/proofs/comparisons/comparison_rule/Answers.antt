use Rattle.rule_conditions.proofs.Compared.{joined_found}
use Rattle.rule_conditions.proofs.comparisons.comparison_rule.Goals as goal

pub returns-in-Arithmetic : goal.returns-in-Arithmetic
returns-in-Arithmetic g c = joined_found g.V.View.Sees c.args.p c.args.a c.args.b c.in-Arithmetic.op c.in-Arithmetic.is
    c.of_two_tests.result c.of_two_tests.ensures
