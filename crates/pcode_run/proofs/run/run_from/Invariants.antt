use Rattle.std.proofs.Common.{◌≡◌, ◌-◌}
use Rattle.machine.specs.Machine.{after}
use Rattle.pcode_model.specs.Memory.{whole}
use Rattle.pcode_model.specs.Step.{step}
use Rattle.pcode_memory.specs.Context.{frame_in, layout_of}
use Rattle.pcode_operands.specs.State.{state_of}
use Rattle.pcode_run.proofs.run.run_from.Given as goal

abbrev pub invariant-loop : goal.invariant-loop
invariant-loop l =
    after (step (whole (layout_of l.context)) l.context.listing.now (frame_in l.context)) (l.n - l.counter)
    (state_of l.context l.state)
    ≡ after (step (whole (layout_of l.context)) l.context.listing.now (frame_in l.context)) l.n
    (state_of l.context l.initial.state)
