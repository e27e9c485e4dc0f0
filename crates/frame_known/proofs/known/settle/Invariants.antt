use Rattle.std.proofs.Common.{◌≤◌, ◌+◌, length}
use Rattle.frame_known.specs.Entering.{waiting, weights}
use Rattle.frame_known.specs.Settling.{Nothing_owed, Settling}
use Rattle.frame_known.proofs.known.settle.Given as goal

abbrev pub invariant-loop-number : goal.invariant-loop-number
invariant-loop-number l = record {
  settling : Settling l.listing l.slots l.blocks Nothing_owed l.rows.items l.waits.items;
  inside : l.from ≤ length l.blocks;
}

abbrev pub decreases-loop-number : goal.decreases-loop-number
decreases-loop-number l = weights (length l.slots.keys.items) l.rows.items + waiting l.waits.items
