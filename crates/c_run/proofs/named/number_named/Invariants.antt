use Rattle.std.proofs.Common.{◌≡◌, ◌+◌, drop}
use Rattle.cmeaning.specs.Do.{space_named}
use Rattle.c_run.proofs.named.number_named.Given as goal

abbrev pub invariant-loop-i : goal.invariant-loop-i
invariant-loop-i l = l.i + space_named l.name (drop l.i l.spaces) ≡ space_named l.name l.spaces
