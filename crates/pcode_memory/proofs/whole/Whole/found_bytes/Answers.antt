use Rattle.run_world.proofs.Steps.{read_step}
use Rattle.pcode_memory.proofs.whole.Whole.found_bytes.Goals as goal

pub loop-preserved : goal.loop-preserved
loop-preserved c = record {
  inside = c.next-here.ensures.inside;
  read =
      read_step _ _ _ _ _ _ _ _ _ _ c.found.ensures c.next-here.ensures.value c.in_ok-push.ensures.items
      c.loop-test.true c.loop.invariant.read;
}
