use Rattle.std.proofs.Common.{◌≡◌, drop}
use Rattle.entry_block.specs.Entered.{some_names}
use Rattle.entry_block.proofs.entered.is_led.Given as goal

abbrev pub invariant-loop-block : goal.invariant-loop-block
invariant-loop-block l = some_names l.entry (drop l.block-index l.blocks) ≡ some_names l.entry l.blocks
