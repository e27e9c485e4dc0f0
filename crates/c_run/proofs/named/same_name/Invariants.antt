use Rattle.std.proofs.Common.{◌≡◌, drop}
use Rattle.cmeaning.specs.Do.{same_name}
use Rattle.c_run.proofs.named.same_name.Given as goal

abbrev pub invariant-loop-i : goal.invariant-loop-i
invariant-loop-i l = same_name (drop l.i l.a) (drop l.i l.b) ≡ same_name l.a l.b
