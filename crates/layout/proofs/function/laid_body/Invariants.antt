use Rattle.std.proofs.Common.{◌≡◌, ◌+◌, ◌++◌, length, reverse}
use Rattle.blockcode.specs.Laid.{is_named, laid_from, laid_body}
use Rattle.layout.proofs.function.laid_body.Given as goal

abbrev pub invariant-loop-block : goal.invariant-loop-block
invariant-loop-block l = record {
  laid : l.body ++ laid_from (is_named l.fn.code) l.number (reverse l.blocks.items) ≡ laid_body l.fn.code;
  count : l.number + length l.blocks.items ≡ length l.fn.code.blocks;
}

abbrev pub decreases-loop-block : goal.decreases-loop-block
decreases-loop-block l = length l.blocks.items
