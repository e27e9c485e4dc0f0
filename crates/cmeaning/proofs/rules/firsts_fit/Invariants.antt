use Rattle.std.proofs.Common.{◌≡◌, drop}
use Rattle.cmeaning.specs.Firsts.{are_firsts}
use Rattle.cmeaning.proofs.rules.firsts_fit.Given as goal

abbrev pub invariant-loop-i : goal.invariant-loop-i
invariant-loop-i l = are_firsts l.callees l.i (drop l.i l.callees) ≡ are_firsts l.callees 0 l.callees
