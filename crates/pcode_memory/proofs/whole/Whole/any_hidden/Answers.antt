use Rattle.run_world.proofs.Steps.{look_step}
use Rattle.pcode_memory.proofs.whole.Whole.any_hidden.Goals as goal

pub loop-preserved : goal.loop-preserved
loop-preserved c = record {
  inside = c.next-here.ensures.inside;
  none =
      look_step _ _ _ _ _ _ _ _ c.is_hidden.ensures c.if-is_hidden.false c.next-here.ensures.value c.loop-test.true
      c.loop.invariant.none;
}
