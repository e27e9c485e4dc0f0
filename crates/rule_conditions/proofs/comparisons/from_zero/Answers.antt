use Rattle.std.proofs.Common.{rules, ◌≡◌}
use Rattle.cmeaning.specs.declared.tree.CompareOp.TheVariants as C
use Rattle.rule_conditions.proofs.Bounds.{from_zero_fires}
use Rattle.rule_conditions.proofs.comparisons.from_zero.Goals as goal

pub returns : goal.returns
returns g c =
    let is : c.args.op ≡ C.Le = search rules in
    from_zero_fires g.V.View.Sees c.args.a c.args.b c.args.op c.in_ok-_zero._zero c.of_test-always.result is
    c.in_ok-_zero.ensures c.of_test-always.ensures.width c.of_test-always.ensures.value
