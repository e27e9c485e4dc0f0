use Rattle.std.proofs.Common.{◌≡◌, drop}
use Rattle.cmeaning.specs.Do.{widths_in}
use Rattle.cmeaning.specs.Valid.{are_right}
use Rattle.cmeaning.proofs.rules.obey.Given as goal

abbrev pub invariant-loop-e : goal.invariant-loop-e
invariant-loop-e l = are_right (widths_in l.f) (drop l.e-index l.es) ≡ are_right (widths_in l.f) l.es
