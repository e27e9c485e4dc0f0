use Rattle.std.proofs.Common.{◌≡◌, ◌<◌, ◌^◌, take, reverse}
use Rattle.bits_core.specs.Bytes.{number}
use Rattle.run_world.proofs.words.number_from_top.Given as goal

abbrev pub invariant-loop-b : goal.invariant-loop-b
invariant-loop-b l = record {
  value : l.n ≡ number (reverse (take l.b-index l.bytes));
  below : l.n < 256 ^ l.b-index;
}
