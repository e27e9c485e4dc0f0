use Rattle.std.proofs.Common.{subst}
use Rattle.opgraph.specs.Graph.{IsWhole}
use Rattle.ssa_model.specs.declared.form.Parts.{Parts}
use Rattle.leaving_laws.proofs.Copies.{are_copies}
use Rattle.leaving_laws.proofs.shows.multiequals_are_copies.Goals as goal

pub returns : goal.returns
returns c = λ none e.
    are_copies c.args.listing.now c.args.f.now.parts e
    (subst (λ (p : Parts). IsWhole p.graph) c.parts.ensures.parts c.known.ensures) c.parts.ensures.form none
