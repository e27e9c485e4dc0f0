use Rattle.std.proofs.Common.{◌<◌, ◌^◌, arith}
use Rattle.pcode_operands.proofs.Raising.{narrow_small}
use Rattle.pcode_operands.proofs.calls.raise.Goals as goal

pub overflow_add-result : goal.overflow_add-result
overflow_add-result c =
    let below : c.args.word.value < 2 ^ 64 =
    narrow_small c.args.word.value c.args.word.width.bytes c.requires c.args.word.below in
    omega (arith, below, c.from.ensures, c.ranges.by)
