use Rattle.std.proofs.Common.{◌≡◌, drop}
use Rattle.pcode_model.specs.Frame.{own_in}
use Rattle.range_words.specs.Own.{stack_size}
use Rattle.op_code.specs.FrameTable.{offset_at}
use Rattle.op_code.proofs.frame.FrameTable.new.Given as goal

abbrev pub invariant-loop-at : goal.invariant-loop-at
invariant-loop-at l = offset_at l.offsets ≡ own_in (stack_size l.listing) (drop l.at l.accesses)
