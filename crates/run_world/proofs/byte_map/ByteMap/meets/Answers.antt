use Rattle.std.proofs.Common.{◌∙◌, ap}
use Rattle.pcode_model.specs.Spaces.{is_some}
use Rattle.run_world.proofs.Steps.{look_step, same_some}
use Rattle.run_world.proofs.byte_map.ByteMap.meets.Goals as goal

pub loop-preserved : goal.loop-preserved
loop-preserved c = record {
  inside = c.next-here.ensures.inside;
  none =
      look_step _ _ _ _ _ _ _ _ (c.is_some.ensures ∙ same_some c.get.result ∙ ap is_some c.get.ensures)
      c.if-is_some.false c.next-here.ensures.value c.loop-test.true c.loop.invariant.none;
}
