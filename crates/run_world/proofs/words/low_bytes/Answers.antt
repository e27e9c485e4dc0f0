use Rattle.run_world.proofs.Steps.{low_step}
use Rattle.run_world.proofs.words.low_bytes.Goals as goal

pub loop-preserved : goal.loop-preserved
loop-preserved c = low_step _ _ _ _ _ _ c.in_ok-push.ensures.items c.loop-test.true c.loop.invariant
