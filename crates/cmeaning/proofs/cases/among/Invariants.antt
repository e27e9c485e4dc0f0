use Rattle.std.proofs.Common.{◌≡◌, drop}
use Rattle.cmeaning.specs.Valid.{is_in}
use Rattle.cmeaning.proofs.cases.among.Given as goal

abbrev pub invariant-loop-y : goal.invariant-loop-y
invariant-loop-y l = is_in l.x (drop l.y-index l.values) ≡ is_in l.x l.values
