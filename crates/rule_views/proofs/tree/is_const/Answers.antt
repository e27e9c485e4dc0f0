use Rattle.std.proofs.Common.{sym, ap, ◌∙◌}
use Rattle.cmeaning.specs.declared.tree.Expr.TheVariants as E
use Rattle.rule_views.proofs.Same.{word_same, word_test}
use Rattle.rule_views.proofs.Layers.{same_const}
use Rattle.rule_views.proofs.tree.is_const.Goals as goal

pub returns-in-Const : goal.returns-in-Const
returns-in-Const c = (
  λ h. c.in-Const.is ∙ ap E.Const (word_same c.in-Const.d c.args.c (sym c.eq.ensures ∙ h)),
  λ h. c.eq.ensures ∙ word_test c.in-Const.d c.args.c (same_const c.in-Const.d c.args.c (sym c.in-Const.is ∙ h)),
)
