use Rattle.std.proofs.Common.{◌≡◌, ℕ, ◌<◌, ◌≤◌, false}
use Rattle.frame_known.specs.Entering.{waits_at}
use Rattle.frame_known.proofs.known.waiting_between.Given as goal

abbrev pub invariant-loop-number : goal.invariant-loop-number
invariant-loop-number l = (k : ℕ) → l.from ≤ k → k < l.number → waits_at l.waits k ≡ false
