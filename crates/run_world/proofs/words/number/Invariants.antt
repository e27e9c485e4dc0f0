use Rattle.std.proofs.Common.{◌≡◌, ◌<◌, ◌≤◌, ◌^◌, ◌-◌, length, drop}
use Rattle.bits_core.specs.Bytes.{number}
use Rattle.run_world.proofs.words.number.Given as goal

abbrev pub invariant-loop-i : goal.invariant-loop-i
invariant-loop-i l = record {
  inside : l.i ≤ length l.bytes;
  value : l.n ≡ number (drop l.i l.bytes);
  below : l.n < 256 ^ (length l.bytes - l.i);
}

abbrev pub decreases-loop-i : goal.decreases-loop-i
decreases-loop-i l = l.i
