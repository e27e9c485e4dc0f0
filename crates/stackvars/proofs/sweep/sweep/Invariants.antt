use Rattle.std.proofs.Common.{◌≡◌, ◌++◌, drop}
use Rattle.stackvars.proofs.Swept.{swept}
use Rattle.stackvars.proofs.sweep.sweep.Given as goal

abbrev pub invariant-loop-mark : goal.invariant-loop-mark
invariant-loop-mark l = l.pieces.items ++ swept l.begin l.reach (drop l.mark-index l.marks) ≡ swept 0 0 l.marks
