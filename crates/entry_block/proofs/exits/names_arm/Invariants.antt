use Rattle.std.proofs.Common.{◌≡◌, drop}
use Rattle.entry_block.specs.Entered.{arm_names}
use Rattle.entry_block.proofs.exits.names_arm.Given as goal

abbrev pub invariant-loop-arm : goal.invariant-loop-arm
invariant-loop-arm l = arm_names l.entry (drop l.arm-index l.arms) ≡ arm_names l.entry l.arms
