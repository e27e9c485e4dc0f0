use Rattle.std.proofs.Common.{rules, ◌≡◌, ap, ◌∙◌}
use Rattle.cmeaning.specs.declared.tree.CompareOp.TheVariants as C
use Rattle.cmeaning.specs.declared.tree.Expr.TheVariants as E
use Rattle.negation.proofs.is_zero.Goals as goal

pub returns : goal.returns
returns c =
    let z = c.in_ok-zero.ensures in
    let is : c.in_ok-condition.condition ≡ c.args.condition = search rules in
    (z.0, (z.1.0, ap (λ e. E.Compare C.Eq e c.in_ok-zero.zero) is ∙ ap (E.Compare C.Eq c.args.condition) z.1.1))
