use Rattle.std.proofs.Common.{◌<◌, ◌^◌, arith}
use Rattle.pcode_operands.proofs.Raising.{narrow_small}
use Rattle.pcode_operands.proofs.Registers.{stack_is}
use Rattle.pcode_operands.proofs.operands.stack_address.Goals as goal

pub local_word-requires : goal.local_word-requires
local_word-requires c = (stack_is c.args.context.now.listing.now c.in-Some.sp c.requires.formed c.in-Some.is).local

pub overflow_add-word : goal.overflow_add-word
overflow_add-word c =
    let w = c.in_ok-word-in-Some.word in
    let narrow = (stack_is c.args.context.now.listing.now c.in-Some.sp c.requires.formed c.in-Some.is).narrow in
    let below : w.value < 2 ^ 64 =
    narrow_small w.value w.width.bytes (omega (arith, narrow, c.in_ok-word-in-Some.ensures.width)) w.below in
    omega (arith, below, c.from-in-Some.ensures, c.ranges.offset)
