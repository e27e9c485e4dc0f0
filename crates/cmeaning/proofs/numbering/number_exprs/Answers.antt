use Rattle.std.proofs.Common.{refl}
use Rattle.cmeaning.specs.Mentions.{in_expr, in_exprs}
use Rattle.cmeaning.proofs.Mentions.{turn}
use Rattle.cmeaning.proofs.numbering.number_exprs.Goals as goal

pub loop-e-preserved : goal.loop-e-preserved
loop-e-preserved c = turn in_expr in_exprs (λ x xs. refl) _ _ _ _ _ _ _ c.loop-e-test.true c.e-item.is
    c.loop-e.invariant c.number_expr-next.ensures
