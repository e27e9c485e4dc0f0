use Rattle.std.proofs.Common.{◌≡◌, ℕ, ◌<◌, false, length, drop}
use Rattle.std.specs.List.{slice_index_or}
use Rattle.pcode_model.specs.Spaces.{or}
use Rattle.blockcode.specs.Laid.{blocks_name, is_named}
use Rattle.layout.proofs.named.named.Given as goal

abbrev pub invariant-loop-n : goal.invariant-loop-n
invariant-loop-n l = record {
  long : length l.named.items ≡ length l.code.blocks;
  flags : (b : ℕ)
      → b < length l.code.blocks
      → or (slice_index_or l.named.items b false) (blocks_name l.n (drop l.n l.code.blocks) b) ≡ is_named l.code b;
}
