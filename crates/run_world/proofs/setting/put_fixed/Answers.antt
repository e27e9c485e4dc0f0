use Rattle.std.proofs.Common.{◌<◌, ℕ, List, ap, arith, length, get_or}
use Rattle.run_world.specs.Maps.{at}
use Rattle.run_world.proofs.Fixed.{over_more}
use Rattle.run_world.proofs.setting.put_fixed.Goals as goal

pub loop-i-preserved : goal.loop-i-preserved
loop-i-preserved c =
    let more : c.loop-i.i < length c.args.fixed.now.bytes =
    omega (arith, c.loop-i-test.true, ap (λ (xs : List ℕ). length xs) c.as_slice-bytes.ensures) in
    over_more c.args.fixed.now.space c.args.fixed.now.offset c.loop-i.i c.args.fixed.now.bytes _ (at c.args.map.now)
    (at c.loop-i.map) (at c.put.new.self) more
    (ap (λ (xs : List ℕ). get_or xs c.loop-i.i 0) c.as_slice-bytes.ensures) c.loop-i.invariant
    c.in_ok-put.ensures.map
