use Rattle.std.proofs.Common.{ap, sym, ◌∙◌, Some}
use Rattle.rule_graph.specs.declared.place.Place.{Place}
use Rattle.rule_graph.proofs.Graphs.{pair_here, pair_none, some_op}
use Rattle.rule_graph.proofs.place.PlaceView.pair.Goals as goal

pub returns-in-Pair : goal.returns-in-Pair
returns-in-Pair c = pair_here (λ (p : Place). p.nodes.now) (λ (p : Place). p.at) c.args.self
    c.input.result c.in-Pair.a (record { same = c.input.ensures.nodes; is = c.input.ensures.at })
    c.input-in-Pair.result c.in-Pair.b
    (record { same = c.input-in-Pair.ensures.nodes; is = c.input-in-Pair.ensures.at })
    c.in-Pair.node (c.op_here.ensures ∙ ap Some c.in-Pair.is)

pub returns-in_default : goal.returns-in_default
returns-in_default c = pair_none (λ (p : Place). p.nodes.now) (λ (p : Place). p.at) c.args.self
    (λ t a b h. c.in_default.not-Pair t a b (some_op _ _ (sym c.op_here.ensures ∙ h)))
