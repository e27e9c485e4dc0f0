use Rattle.std.proofs.Common.{◌≡◌, drop}
use Rattle.parts.specs.Visits.{visited, all_variables}
use Rattle.parts.proofs.visits.visit_exprs.Given as goal

abbrev pub invariant-loop-e : goal.invariant-loop-e
invariant-loop-e g l =
    let after = g.V.Visitor.after in
    visited after l.visitor (all_variables (drop l.e-index l.es)) ≡ visited after l.fn.visitor (all_variables l.es)
