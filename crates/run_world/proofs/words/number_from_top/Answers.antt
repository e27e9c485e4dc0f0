use Rattle.std.proofs.Common.{◌<◌, arith}
use Rattle.run_world.proofs.Steps.{one_more_fits}
use Rattle.run_world.proofs.words.number_from_top.Goals as goal

pub overflow_mul-n : goal.overflow_mul-n
overflow_mul-n c =
    omega (arith, one_more_fits c.loop-b.n 0 c.loop-b.b-index c.loop-b.invariant.below (omega arith) (omega arith))

pub overflow_add-n : goal.overflow_add-n
overflow_add-n c =
    let byte : c.from.result < 256 = omega (arith, c.from.ensures, c.type_inv.bytes c.loop-b.b-index) in
    omega (arith, one_more_fits c.loop-b.n c.from.result c.loop-b.b-index c.loop-b.invariant.below byte (omega arith))
