use Rattle.std.proofs.Common.{subst}
use Rattle.opgraph.specs.Graph.{IsWhole}
use Rattle.ssa_model.specs.declared.form.Parts.{Parts}
use Rattle.heritage_laws.proofs.Standing.{shows_code}
use Rattle.heritage_laws.proofs.shows.certified_shows.Goals as goal

pub returns : goal.returns
returns c = λ tables certified sound e.
    shows_code c.args.listing.now c.args.code.now c.args.f.now.parts e
    (subst (λ (p : Parts). IsWhole p.graph) c.parts.ensures.parts c.known.ensures) c.parts.ensures.form tables certified
    sound
