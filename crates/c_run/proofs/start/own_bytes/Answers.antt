use Rattle.run_world.proofs.Steps.{read_step}
use Rattle.c_run.proofs.start.own_bytes.Goals as goal

pub loop-preserved : goal.loop-preserved
loop-preserved c = record {
  inside = c.next-here.ensures.inside;
  read =
      read_step _ _ _ _ _ _ _ _ _ _ c.own_byte.ensures c.next-here.ensures.value c.in_ok-push.ensures.items
      c.loop-test.true c.loop.invariant.read;
}
