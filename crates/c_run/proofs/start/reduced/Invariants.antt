use Rattle.std.proofs.Common.{◌≡◌, ◌≤◌, ◌%◌, length, drop}
use Rattle.bits_core.specs.Bytes.{number}
use Rattle.run_world.specs.Setting.{size}
use Rattle.c_run.proofs.start.reduced.Given as goal

abbrev pub invariant-loop-i : goal.invariant-loop-i
invariant-loop-i l = record {
  inside : l.i ≤ length l.bytes;
  value : l.n ≡ number (drop l.i l.bytes) % size l.shape;
}

abbrev pub decreases-loop-i : goal.decreases-loop-i
decreases-loop-i l = l.i
