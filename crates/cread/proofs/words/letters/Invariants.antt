use Rattle.std.proofs.Common.{◌≡◌, ◌+◌, ◌-◌, ◌≤◌, length, drop}
use Rattle.listing_lines.specs.Tokens.{is_name_byte}
use Rattle.cread.specs.Words.{run_of}
use Rattle.cread.proofs.words.letters.Given as goal

abbrev pub invariant-loop-n : goal.invariant-loop-n
invariant-loop-n l = record {
  within : l.n ≤ length l.bytes;
  same : l.n + run_of is_name_byte (drop l.n l.bytes) ≡ run_of is_name_byte l.bytes;
}

abbrev pub decreases-loop-n : goal.decreases-loop-n
decreases-loop-n l = length l.bytes - l.n
