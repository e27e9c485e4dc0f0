use Rattle.std.proofs.Common.{◌≡◌, drop}
use Rattle.pcode_model.specs.Memory.{whole}
use Rattle.pcode_model.specs.Step.{arguments, read_all}
use Rattle.pcode_memory.specs.Context.{frame_in, layout_of}
use Rattle.pcode_operands.specs.State.{state_of}
use Rattle.pcode_operands.specs.Words.{joined}
use Rattle.pcode_operands.proofs.operands.read_arguments.Given as goal

abbrev pub invariant-loop-n : goal.invariant-loop-n
invariant-loop-n l =
    joined l.words
    (read_all (whole (layout_of l.context)) l.context.listing.now (frame_in l.context) (state_of l.context l.state)
    (arguments l.n (drop l.n l.storages)))
    ≡ read_all (whole (layout_of l.context)) l.context.listing.now (frame_in l.context) (state_of l.context l.state)
    (arguments 0 l.storages)
