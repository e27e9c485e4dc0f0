use Rattle.std.proofs.Common.{◌<◌, ◌*◌, ◌+◌, ◌^◌, arith}
use Rattle.entrytext.proofs.Digits.{digit_fits}
use Rattle.entrytext.proofs.words.number.Goals as goal

pub overflow_mul-n : goal.overflow_mul-n
overflow_mul-n c =
    let fits : c.loop-b.n * 16 + 0 < 2 ^ 128 =
    digit_fits _ 0 c.loop-b.b-index (omega arith) (omega arith) c.loop-b.invariant.small in
    omega (arith, fits)

pub overflow_add-n : goal.overflow_add-n
overflow_add-n c =
    let fits : c.loop-b.n * 16 + c.from.result < 2 ^ 128 =
    digit_fits _ _ c.loop-b.b-index (omega arith) (omega arith) c.loop-b.invariant.small in
    omega (arith, fits)
