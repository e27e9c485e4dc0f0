use Rattle.std.proofs.Common.{◌∙◌, ap, sym, arith}
use Rattle.std.proofs.Math.Seq.{drop-length}
use Rattle.pcode_model.specs.Spaces.{fixed_in}
use Rattle.run_world.specs.Maps.{at}
use Rattle.run_world.proofs.Fixed.{range_more}
use Rattle.run_world.proofs.setting.fixed_bytes.Goals as goal

pub loop-i-init : goal.loop-i-init
loop-i-init c =
    record { inside = omega arith; put = c.new-map.ensures ∙ sym (ap fixed_in (drop-length c.args.fixed.now)) }

pub loop-i-preserved : goal.loop-i-preserved
loop-i-preserved c = record {
  inside = omega arith;
  put =
      range_more c.args.fixed.now c.loop-i.i c.index-fixed-i.result (at c.loop-i.map) (at c.put_fixed.new.map)
      c.loop-i-test.true c.loop-i.invariant.inside c.index-fixed-i.is c.loop-i.invariant.put c.in_ok-put_fixed.ensures;
}
