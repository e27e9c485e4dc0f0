use Rattle.std.proofs.Common.{IsTrue, false, ap, ◌∙◌, Some}
use Rattle.rule_graph.specs.declared.place.Place.{Place}
use Rattle.rule_graph.specs.declared.node.Op.TheVariants as O
use Rattle.rule_views.proofs.Seen.{constant_only}
use Rattle.rule_graph.proofs.Graphs.{Shows, same_number, same_constant, unlike}
use Rattle.rule_graph.proofs.place.PlaceView.same.Goals as goal

pub returns-then-self-other-clause-yes : goal.returns-then-self-other-clause-yes
returns-then-self-other-clause-yes c h = same_number (λ (p : Place). p.nodes.now) (λ (p : Place). p.at) c.args.self
    c.args.other c.if-self-other.true

pub returns-in-Some-clause-yes : goal.returns-in-Some-clause-yes
returns-in-Some-clause-yes c h = same_constant (λ (p : Place). p.nodes.now) (λ (p : Place). p.at) c.args.self c.args.other
    c.in-Some.c c.in-Some.ensures (c.is_constant.ensures.0 h)

pub returns-in-Some-clause-no : goal.returns-in-Some-clause-no
returns-in-Some-clause-no c vs e atom s t =
    let shows = Shows (λ (p : Place). p.nodes.now) (λ (p : Place). p.at) in
    unlike (λ (p : Place). p.nodes.now) (λ (p : Place). p.at) c.args.self c.args.other (IsTrue c.is_constant.result)
    c.if-self-other.false vs
    (λ d u at. c.is_constant.ensures.1
    (at ∙ ap (λ z. Some (O.Const z)) (constant_only shows c.args.self c.in-Some.c c.in-Some.ensures vs d u)))
    e atom s t

pub returns-in-None-clause-no : goal.returns-in-None-clause-no
returns-in-None-clause-no c vs e atom s t =
    unlike (λ (p : Place). p.nodes.now) (λ (p : Place). p.at) c.args.self c.args.other (IsTrue false)
    c.if-self-other.false vs (λ d u at. absurd (c.in-None.ensures vs d u)) e atom s t
