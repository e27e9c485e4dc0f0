use Rattle.std.proofs.Common.{subst}
use Rattle.opgraph.specs.Graph.{IsWhole}
use Rattle.ssa_model.specs.declared.form.Parts.{Parts}
use Rattle.ssa_laws.proofs.Runs.{equations_hold}
use Rattle.ssa_laws.proofs.available.available_equations.Goals as goal

pub returns : goal.returns
returns c = λ e n over before behind stands v r row available.
    equations_hold c.args.listing.now c.args.f.now.parts e
    (subst (λ (p : Parts). IsWhole p.graph) c.parts.ensures.parts c.known.ensures) c.parts.ensures.form n over before
    behind stands v r row available
