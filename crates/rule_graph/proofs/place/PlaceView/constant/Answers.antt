use Rattle.std.proofs.Common.{ap, sym, ◌∙◌, Some}
use Rattle.rule_graph.specs.declared.place.Place.{Place}
use Rattle.rule_graph.proofs.Graphs.{const_here, const_none, some_op}
use Rattle.rule_graph.proofs.place.PlaceView.constant.Goals as goal

pub returns-in-Const : goal.returns-in-Const
returns-in-Const c = const_here (λ (p : Place). p.nodes.now) (λ (p : Place). p.at) c.args.self c.in-Const.c
    (c.op_here.ensures ∙ ap Some c.in-Const.is)

pub returns-in_default : goal.returns-in_default
returns-in_default c = const_none (λ (p : Place). p.nodes.now) (λ (p : Place). p.at) c.args.self
    (λ k h. c.in_default.not-Const k (some_op _ _ (sym c.op_here.ensures ∙ h)))
