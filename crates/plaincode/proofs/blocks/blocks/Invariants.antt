use Rattle.std.proofs.Common.{◌≡◌, ◌≤◌, ◌^◌, ◌++◌, length, drop}
use Rattle.op_code.specs.Lowered.{blocks_made}
use Rattle.op_code.specs.FrameTable.{own_at}
use Rattle.plaincode.proofs.blocks.blocks.Given as goal

abbrev pub invariant-loop-from : goal.invariant-loop-from
invariant-loop-from l =
    let all = blocks_made l.listing (own_at l.frame) l.table (length l.initial.variables) l.flow in
    let rest = blocks_made l.listing (own_at l.frame) l.table (length l.variables) (drop l.from-index l.flow) in
    record {
      blocks : l.blocks ++ rest.blocks ≡ all.blocks;
      locals : l.variables ++ rest.locals ≡ l.initial.variables ++ all.locals;
      few : length l.variables ≤ 2 ^ 32;
    }
