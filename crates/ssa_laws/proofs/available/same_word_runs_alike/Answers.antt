use Rattle.std.proofs.Common.{subst}
use Rattle.opgraph.specs.Graph.{IsWhole}
use Rattle.ssa_model.specs.declared.form.Parts.{Parts}
use Rattle.ssa_laws.proofs.Replaces.{replaced_alike}
use Rattle.ssa_laws.proofs.available.same_word_runs_alike.Goals as goal

pub returns : goal.returns
returns c = λ old new same e n.
    replaced_alike c.args.listing.now c.args.before.now.parts c.args.after.now.parts old new e
    (subst (λ (p : Parts). IsWhole p.graph) c.parts.ensures.parts c.known.ensures) c.parts.ensures.form same n
