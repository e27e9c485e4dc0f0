use Rattle.std.proofs.Common.{◌≡◌, ◌++◌, drop}
use Rattle.std.specs.Prelude.{map}
use Rattle.blockcode.specs.Numbers.{ArmsBelow}
use Rattle.entry_block.specs.Entered.{shifted_arm}
use Rattle.entry_block.proofs.exits.shifted_arms.Given as goal

abbrev pub invariant-loop-arm : goal.invariant-loop-arm
invariant-loop-arm l = record {
  moved : l.moved ++ map (shifted_arm l.entry) (drop l.arm-index l.arms) ≡ map (shifted_arm l.entry) l.arms;
  below : ArmsBelow l.count (drop l.arm-index l.arms);
}
