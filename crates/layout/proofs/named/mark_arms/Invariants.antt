use Rattle.std.proofs.Common.{◌≡◌, ℕ, ◌<◌, false, length, drop}
use Rattle.std.specs.List.{slice_index_or}
use Rattle.pcode_model.specs.Spaces.{or}
use Rattle.blockcode.specs.Laid.{arms_name}
use Rattle.layout.proofs.named.mark_arms.Given as goal

abbrev pub invariant-loop-arm : goal.invariant-loop-arm
invariant-loop-arm l = record {
  long : length l.named.items ≡ length l.initial.named.items;
  flags : (b : ℕ)
      → b < length l.initial.named.items
      → or (arms_name (drop l.arm-index l.arms) b) (slice_index_or l.named.items b false)
      ≡ or (arms_name l.arms b) (slice_index_or l.initial.named.items b false);
}
