use Rattle.run_world.proofs.Steps.{look_step}
use Rattle.pcode_memory.proofs.context.PcodeContext.any_framed.Goals as goal

pub loop-preserved : goal.loop-preserved
loop-preserved c = record {
  inside = c.next-here.ensures.inside;
  none =
      look_step _ _ _ _ _ _ _ _ c.is_framed.ensures c.if-is_framed.false c.next-here.ensures.value c.loop-test.true
      c.loop.invariant.none;
}
