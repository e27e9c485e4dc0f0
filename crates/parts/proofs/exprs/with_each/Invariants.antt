use Rattle.std.proofs.Common.{◌≡◌, ◌++◌, drop}
use Rattle.parts.specs.Exprs.{with_each}
use Rattle.parts.proofs.exprs.with_each.Given as goal

abbrev pub invariant-loop-e : goal.invariant-loop-e
invariant-loop-e g l =
    let place = g.P.Places.place l.places in
    l.made ++ with_each place (drop l.e-index l.es) ≡ with_each place l.es
