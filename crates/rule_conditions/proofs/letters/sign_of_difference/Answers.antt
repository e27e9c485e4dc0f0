use Rattle.std.proofs.Common.{rules}
use Rattle.cmeaning.specs.declared.tree.ArithmeticOp.TheVariants as O
use Rattle.rule_views.specs.declared.nodes.Pair.TheVariants as P
use Rattle.rule_views.specs.Sees.{NoNode, NoZero}
use Rattle.rule_conditions.specs.Twice.{NoSign}
use Rattle.rule_conditions.proofs.Borrows.{no_zero, no_difference, is_sign}
use Rattle.rule_conditions.proofs.letters.sign_of_difference.Goals as goal

pub returns-in_err-_zero : goal.returns-in_err-_zero
returns-in_err-_zero g c =
    let sees = g.V.View.Sees in
    let none : NoZero sees c.in_ok-d.z = search rules in
    let no : NoSign sees c.args.at = no_zero sees c.args.at c.in_ok-d.d c.in_ok-d.z c.in_ok-d.ensures none in
    search rules

pub returns-in_err-x : goal.returns-in_err-x
returns-in_err-x g c =
    let sees = g.V.View.Sees in
    let none : NoNode sees c.in_ok-d.d (P.Arithmetic O.Sub) = search rules in
    let no : NoSign sees c.args.at = no_difference sees c.args.at c.in_ok-d.d c.in_ok-d.z c.in_ok-d.ensures none in
    search rules

pub returns : goal.returns
returns g c = is_sign g.V.View.Sees c.args.at c.in_ok-d.d c.in_ok-d.z c.in_ok-d.ensures c.in_ok-x.x c.in_ok-x.y
    c.in_ok-_zero._zero c.in_ok-_zero.ensures c.in_ok-x.ensures
