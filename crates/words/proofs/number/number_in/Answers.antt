use Rattle.std.proofs.Common.{◌<◌, ◌*◌, ◌+◌, ◌^◌, arith}
use Rattle.listing_lines.proofs.Digits.{product_fits, sum_fits}
use Rattle.words.proofs.number.number_in.Goals as goal

pub overflow_mul-n : goal.overflow_mul-n
overflow_mul-n c =
    let fits : c.loop-b.n * 10 < 2 ^ 64 = product_fits _ _ c.loop-b.b-index (omega arith) (omega arith) c.loop-b.invariant.small in
    omega (arith, fits)

pub overflow_add-n : goal.overflow_add-n
overflow_add-n c =
    let fits : c.loop-b.n * 10 + c.from.result < 2 ^ 64 = sum_fits _ _ _ c.loop-b.b-index (omega arith) (omega arith) (omega arith) c.loop-b.invariant.small in
    omega (arith, fits)
