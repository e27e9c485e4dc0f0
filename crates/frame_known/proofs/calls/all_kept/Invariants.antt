use Rattle.std.proofs.Common.{◌≡◌, ◌+◌, ◌-◌}
use Rattle.frame_known.specs.Rows.{all_kept}
use Rattle.frame_known.proofs.calls.all_kept.Given as goal

abbrev pub invariant-loop-byte : goal.invariant-loop-byte
invariant-loop-byte l = all_kept l.keep (l.offset + l.byte) (l.size - l.byte) ≡ all_kept l.fn.keep l.fn.offset l.fn.size
