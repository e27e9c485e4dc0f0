use Rattle.std.proofs.Common.{◌≡◌, drop}
use Rattle.cmeaning.specs.Valid.{are_words}
use Rattle.cmeaning.proofs.cases.each_fits.Given as goal

abbrev pub invariant-loop-x : goal.invariant-loop-x
invariant-loop-x l = are_words l.width (drop l.x-index l.values) ≡ are_words l.width l.values
