use Rattle.std.proofs.Common.{subst}
use Rattle.opgraph.specs.Graph.{IsWhole}
use Rattle.ssa_model.specs.declared.form.Parts.{Parts}
use Rattle.ssa_laws.proofs.Words.{values_words}
use Rattle.ssa_laws.proofs.available.values_are_words.Goals as goal

pub returns : goal.returns
returns c = λ e entry.
    values_words c.args.listing.now c.args.f.now.parts e
    (subst (λ (p : Parts). IsWhole p.graph) c.parts.ensures.parts c.known.ensures) c.parts.ensures.form entry
