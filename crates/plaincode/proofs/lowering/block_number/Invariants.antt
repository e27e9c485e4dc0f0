use Rattle.std.proofs.Common.{◌≡◌, ◌+◌, ◌≤◌, drop}
use Rattle.pcode_model.specs.Flow.{starts_of}
use Rattle.op_code.specs.Lowered.{place_number}
use Rattle.plaincode.proofs.lowering.block_number.Given as goal

abbrev pub invariant-loop-block : goal.invariant-loop-block
invariant-loop-block l = record {
  number : l.number + place_number (starts_of (drop l.block-index l.blocks)) l.start
      ≡ place_number (starts_of l.blocks) l.start;
  small : l.number ≤ l.block-index;
}
