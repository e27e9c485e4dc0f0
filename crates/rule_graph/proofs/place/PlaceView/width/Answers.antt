use Rattle.std.proofs.Common.{◌≡◌, ap, sym, ◌∙◌, Some, subst}
use Rattle.rules.specs.Size.{size_of}
use Rattle.rule_graph.proofs.Sizes.{seen_size}
use Rattle.rule_graph.proofs.place.PlaceView.width.Goals as goal

pub returns : goal.returns
returns c vs e s =
    let p = c.args.self in
    subst (λ w. size_of w e ≡ Some c.width_here.result.bytes) (sym s.variables.widths)
    (seen_size p.nodes.now p.formed p.at e s.seen p.plain.inside ∙ ap Some (sym c.width_here.ensures))
