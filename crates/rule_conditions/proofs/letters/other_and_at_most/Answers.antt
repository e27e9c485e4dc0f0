use Rattle.std.proofs.Common.{rules, ◌≡◌}
use Rattle.cmeaning.specs.declared.tree.ArithmeticOp.TheVariants as O
use Rattle.rule_conditions.proofs.Joined.{other_fires}
use Rattle.rule_conditions.proofs.letters.other_and_at_most.Goals as goal

pub returns : goal.returns
returns g c =
    let is : c.args.op ≡ O.And = search rules in
    other_fires g.V.View.Sees c.args.op c.args.a c.args.b c.in_ok-made.made is c.in_ok-made.ensures
