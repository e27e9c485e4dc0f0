use Rattle.std.proofs.Common.{subst}
use Rattle.opgraph.specs.Graph.{IsWhole}
use Rattle.ssa_model.specs.declared.form.Parts.{Parts}
use Rattle.leaving_laws.proofs.Whole.{is_code}
use Rattle.leaving_laws.proofs.shows.functions_are_code.Goals as goal

pub returns : goal.returns
returns c = λ none e.
    is_code c.args.listing.now c.args.f.now.parts e
    (subst (λ (p : Parts). IsWhole p.graph) c.parts.ensures.parts c.known.ensures) c.parts.ensures.form none
