use Rattle.std.proofs.Common.{◌≡◌, ◌++◌, drop}
use Rattle.stackvars.specs.Cuts.{opens}
use Rattle.stackvars.proofs.cuts.push_opens.Given as goal

abbrev pub invariant-loop-access : goal.invariant-loop-access
invariant-loop-access l = l.marks.items ++ opens (drop l.access-index l.accessed) ≡ l.fn.marks.items ++ opens l.accessed
