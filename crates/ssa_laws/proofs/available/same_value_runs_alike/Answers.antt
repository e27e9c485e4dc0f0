use Rattle.std.proofs.Common.{subst}
use Rattle.opgraph.specs.Graph.{IsWhole}
use Rattle.ssa_model.specs.declared.form.Parts.{Parts}
use Rattle.ssa_laws.proofs.Retargets.{run_alike}
use Rattle.ssa_laws.proofs.available.same_value_runs_alike.Goals as goal

pub returns : goal.returns
returns c = λ x r s a b same e n.
    run_alike c.args.listing.now c.args.before.now.parts c.args.after.now.parts x r s a b e
    (subst (λ (p : Parts). IsWhole p.graph) c.parts.ensures.parts c.known.ensures) c.parts.ensures.form
    (subst (λ (p : Parts). IsWhole p.graph) c.parts-2.ensures.parts c.known-2.ensures) c.parts-2.ensures.form same n
