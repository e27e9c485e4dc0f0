use Rattle.std.proofs.Common.{◌≡◌, drop}
use Rattle.cmeaning.specs.Valid.{precedes_all}
use Rattle.cmeaning.proofs.params.precedes_each.Given as goal

abbrev pub invariant-loop-q : goal.invariant-loop-q
invariant-loop-q l = precedes_all l.p (drop l.q-index l.params) ≡ precedes_all l.p l.params
