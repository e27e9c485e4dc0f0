use Rattle.std.proofs.Common.{◌<◌, ◌^◌, arith}
use Rattle.pcode_operands.proofs.Raising.{narrow_small}
use Rattle.pcode_operands.proofs.Registers.{stack_is}
use Rattle.pcode_run.proofs.run.stack_word.Goals as goal

pub local_word-requires : goal.local_word-requires
local_word-requires c = (stack_is c.args.context.now.listing.now c.in-Some.sp c.requires.formed c.in-Some.is).local

pub overflow_cast-result : goal.overflow_cast-result
overflow_cast-result c =
    let w = c.in_ok-word-in-Some.word in
    let narrow = (stack_is c.args.context.now.listing.now c.in-Some.sp c.requires.formed c.in-Some.is).narrow in
    let below : w.value < 2 ^ 64 =
    narrow_small w.value w.width.bytes (omega (arith, narrow, c.in_ok-word-in-Some.ensures.width)) w.below in
    omega (arith, below)
