use Rattle.std.proofs.Common.{rules, ◌≡◌}
use Rattle.cmeaning.specs.declared.tree.CompareOp.TheVariants as C
use Rattle.rule_conditions.proofs.Bounds.{to_zero_fires}
use Rattle.rule_conditions.proofs.comparisons.to_zero.Goals as goal

pub returns : goal.returns
returns g c =
    let is : c.args.op ≡ C.Le = search rules in
    let number : c.args.c.value ≡ 0 = search rules in
    to_zero_fires g.V.View.Sees c.args.op c.args.a c.args.c is number
