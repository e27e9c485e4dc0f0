use Rattle.std.proofs.Common.{ap, sym, ◌∙◌, Some}
use Rattle.rule_graph.specs.declared.node.Op.TheVariants as O
use Rattle.rule_views.proofs.Same.{word_same, word_test}
use Rattle.rule_graph.proofs.Graphs.{some_word}
use Rattle.rule_graph.proofs.place.is_constant.Goals as goal

pub returns-in-Const : goal.returns-in-Const
returns-in-Const c = (
  λ h. c.op_here.ensures ∙ ap Some c.in-Const.is
      ∙ ap (λ z. Some (O.Const z)) (word_same c.in-Const.d c.args.c (sym c.eq.ensures ∙ h)),
  λ h. c.eq.ensures
      ∙ word_test c.in-Const.d c.args.c (some_word c.in-Const.d c.args.c (sym (c.op_here.ensures ∙ ap Some c.in-Const.is) ∙ h)),
)
