use Rattle.std.proofs.Common.{subst}
use Rattle.opgraph.specs.Graph.{IsWhole}
use Rattle.ssa_model.specs.declared.form.Parts.{Parts}
use Rattle.ssa_laws.proofs.Dropped.{without_shows}
use Rattle.ssa_laws.proofs.available.without_quiet_ops.Goals as goal

pub returns : goal.returns
returns c = λ xs less e defined.
    without_shows c.args.listing.now c.args.before.now.parts c.args.after.now.parts xs e
    (subst (λ (p : Parts). IsWhole p.graph) c.parts.ensures.parts c.known.ensures) c.parts.ensures.form
    (subst (λ (p : Parts). IsWhole p.graph) c.parts-2.ensures.parts c.known-2.ensures) c.parts-2.ensures.form less
    defined
