use Rattle.std.proofs.Common.{rules}
use Rattle.rule_views.specs.Sees.{NoPair}
use Rattle.rule_conditions.specs.Tests.{NoTest}
use Rattle.rule_conditions.proofs.Decided.{no_pair_tested, compare_test, signed_test, overflow_test}
use Rattle.rule_conditions.proofs.booleans.test.Goals as goal

pub returns-in_err-node : goal.returns-in_err-node
returns-in_err-node g c =
    let none : NoPair g.V.View.Sees c.args.at = search rules in
    let no : NoTest g.V.View.Sees c.args.at = no_pair_tested g.V.View.Sees c.args.at none in
    search rules

pub returns-in-Compare : goal.returns-in-Compare
returns-in-Compare g c = compare_test g.V.View.Sees c.args.at c.in_ok-node._x c.in_ok-node._y c.in_ok-node.node c.in_ok-node.ensures
    c.in-Compare.field-0 c.in-Compare.is

pub returns-in-SignedCompare : goal.returns-in-SignedCompare
returns-in-SignedCompare g c = signed_test g.V.View.Sees c.args.at c.in_ok-node._x c.in_ok-node._y c.in_ok-node.node c.in_ok-node.ensures
    c.in-SignedCompare.field-0 c.in-SignedCompare.is

pub returns-in-Overflow : goal.returns-in-Overflow
returns-in-Overflow g c = overflow_test g.V.View.Sees c.args.at c.in_ok-node._x c.in_ok-node._y c.in_ok-node.node c.in_ok-node.ensures
    c.in-Overflow.field-0 c.in-Overflow.is
