use Rattle.std.proofs.Common.{◌≡◌, drop}
use Rattle.pcode_model.specs.Memory.{whole}
use Rattle.pcode_model.specs.Step.{all_read, read_all}
use Rattle.pcode_memory.specs.Context.{frame_in, layout_of}
use Rattle.pcode_operands.specs.State.{state_of}
use Rattle.pcode_operands.specs.Words.{joined}
use Rattle.pcode_operands.proofs.operands.read_all.Given as goal

abbrev pub invariant-loop-v : goal.invariant-loop-v
invariant-loop-v l =
    joined l.words
    (read_all (whole (layout_of l.context)) l.context.listing.now (frame_in l.context) (state_of l.context l.state)
    (all_read (drop l.v-index l.varnodes)))
    ≡ read_all (whole (layout_of l.context)) l.context.listing.now (frame_in l.context) (state_of l.context l.state)
    (all_read l.varnodes)
