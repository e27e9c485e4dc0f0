use Rattle.std.proofs.Common.{◌≡◌, ◌++◌, length, reverse}
use Rattle.layout.proofs.function.turned.Given as goal

abbrev pub invariant-loop-block : goal.invariant-loop-block
invariant-loop-block l = l.turned.items ++ reverse l.blocks ≡ reverse l.initial.blocks

abbrev pub decreases-loop-block : goal.decreases-loop-block
decreases-loop-block l = length l.blocks
