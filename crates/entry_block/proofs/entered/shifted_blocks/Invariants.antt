use Rattle.std.proofs.Common.{◌≡◌, ◌++◌, length, reverse}
use Rattle.std.specs.Prelude.{map}
use Rattle.blockcode.specs.Numbers.{ExitsBelow}
use Rattle.entry_block.specs.Entered.{shifted_block}
use Rattle.entry_block.proofs.entered.shifted_blocks.Given as goal

abbrev pub invariant-loop-block : goal.invariant-loop-block
invariant-loop-block l = record {
  moved : l.moved.items ++ map (shifted_block l.entry) (reverse l.blocks)
      ≡ map (shifted_block l.entry) (reverse l.initial.blocks);
  below : ExitsBelow l.count l.blocks;
}

abbrev pub decreases-loop-block : goal.decreases-loop-block
decreases-loop-block l = length l.blocks
