use Rattle.std.proofs.Common.{ap, sym, ◌∙◌, Some}
use Rattle.rule_graph.specs.declared.place.Place.{Place}
use Rattle.rule_graph.proofs.Graphs.{single_here, single_none, some_op}
use Rattle.rule_graph.proofs.place.PlaceView.single.Goals as goal

pub returns-in-Single : goal.returns-in-Single
returns-in-Single c = single_here (λ (p : Place). p.nodes.now) (λ (p : Place). p.at) c.args.self c.input.result
    c.in-Single.a (record { same = c.input.ensures.nodes; is = c.input.ensures.at }) c.in-Single.node
    (c.op_here.ensures ∙ ap Some c.in-Single.is)

pub returns-in_default : goal.returns-in_default
returns-in_default c = single_none (λ (p : Place). p.nodes.now) (λ (p : Place). p.at) c.args.self
    (λ s a h. c.in_default.not-Single s a (some_op _ _ (sym c.op_here.ensures ∙ h)))
