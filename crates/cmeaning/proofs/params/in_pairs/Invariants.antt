use Rattle.std.proofs.Common.{◌≡◌, drop}
use Rattle.cmeaning.specs.Valid.{are_params}
use Rattle.cmeaning.proofs.params.in_pairs.Given as goal

abbrev pub invariant-loop-i : goal.invariant-loop-i
invariant-loop-i l = are_params (drop l.i l.params) ≡ are_params l.params
