use Rattle.std.proofs.Common.{◌≡◌, None, replicate}
use Rattle.frame_known.proofs.known.no_rows.Given as goal

abbrev pub invariant-loop-number : goal.invariant-loop-number
invariant-loop-number l = l.rows.items ≡ replicate l._number None
