use Rattle.std.proofs.Common.{rules, ◌≡◌}
use Rattle.cmeaning.specs.declared.tree.CompareOp.TheVariants as C
use Rattle.rule_conditions.proofs.Bounds.{below_one_fires}
use Rattle.rule_conditions.proofs.comparisons.below_one.Goals as goal

pub returns : goal.returns
returns g c =
    let is : c.args.op ≡ C.Lt = search rules in
    let number : c.args.c.value ≡ 1 = search rules in
    below_one_fires g.V.View.Sees c.args.op c.args.a c.args.c c.new-zero.result is number c.new-zero.ensures.width
    c.new-zero.ensures.value
