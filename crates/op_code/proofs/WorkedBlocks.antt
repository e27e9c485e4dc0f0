-- A small listing is lowered, by computation.
use Rattle.std.proofs.Common.{refl}
use Rattle.op_code.specs.WorkedBlocks.{WorkedBlocks}

pub worked_blocks : WorkedBlocks
worked_blocks = record { code = refl; one_block = refl }
