use Rattle.std.proofs.Common.{rules, ◌≡◌}
use Rattle.cmeaning.specs.declared.tree.ArithmeticOp.TheVariants as O
use Rattle.rule_conditions.proofs.Joined.{equal_fires}
use Rattle.rule_conditions.proofs.letters.equal_or_less.Goals as goal

pub returns : goal.returns
returns g c =
    let is : c.args.op ≡ O.Or = search rules in
    equal_fires g.V.View.Sees c.args.op c.args.a c.args.b c.in_ok-made.made is c.in_ok-made.ensures
