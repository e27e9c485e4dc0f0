use Rattle.std.proofs.Common.{rules, ◌≡◌}
use Rattle.cmeaning.specs.declared.tree.CompareOp.TheVariants as C
use Rattle.rule_conditions.proofs.Bounds.{below_zero_fires}
use Rattle.rule_conditions.proofs.comparisons.below_zero.Goals as goal

pub returns : goal.returns
returns g c =
    let is : c.args.op ≡ C.Lt = search rules in
    let number : c.args.c.value ≡ 0 = search rules in
    below_zero_fires g.V.View.Sees c.args.op c.args.a c.args.c c.of_test-never.result is number c.of_test-never.ensures.width
    c.of_test-never.ensures.value
