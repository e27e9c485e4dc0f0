use Rattle.std.proofs.Common.{◌≡◌, IsSome, None, ap, arith, refl, rules}
use Rattle.pcode_model.specs.Memory.{whole}
use Rattle.run_world.specs.Meaning.{over_of}
use Rattle.pcode_memory.specs.Context.{frame_in, layout_of}
use Rattle.pcode_operands.specs.State.{state_of}
use Rattle.pcode_run.proofs.Turning.{done_all, done_early, turned}
use Rattle.pcode_run.proofs.run.run_from.Goals as goal
use Rattle.pcode_run.proofs.run.run_from.Goals.{else-loop-test, then-loop-test+then-is_some}

pub loop-preserved : goal.loop-preserved
loop-preserved c =
    let q = c.args in
    let none : c.loop.state.log.end ≡ None = search rules in
    turned (whole (layout_of q.context.now)) q.context.now.listing.now (frame_in q.context.now)
    (state_of q.context.now c.loop.state) (state_of q.context.now c.step.new.state) q.n c.loop.counter _
    c.loop-test.true (ap over_of none) (c.in_ok-step.ensures {u = tt}) c.loop.invariant

pub returns : goal.returns
returns c =
    let q = c.args in
    elim c.loop-test.branch [
      | else-loop-test w ↦
          done_all (whole (layout_of q.context.now)) q.context.now.listing.now (frame_in q.context.now)
          (state_of q.context.now c.loop.state) (state_of q.context.now q.state) q.n c.loop.counter (omega arith)
          c.loop.invariant
      | then-loop-test+then-is_some w ↦
          done_early (whole (layout_of q.context.now)) q.context.now.listing.now (frame_in q.context.now)
          (state_of q.context.now c.loop.state) (state_of q.context.now q.state) q.n c.loop.counter
          c.loop.state.log.end refl (let some : IsSome c.loop.state.log.end = search rules in some)
          c.loop.invariant
    ]
