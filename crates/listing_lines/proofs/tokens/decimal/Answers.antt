use Rattle.std.proofs.Common.{◌<◌, ◌^◌, length, arith}
use Rattle.listing_lines.proofs.Digits.{five_digits}
use Rattle.listing_lines.proofs.tokens.decimal.Goals as goal

pub overflow_cast-result : goal.overflow_cast-result
overflow_cast-result c =
    let small : c.in-Some.n < 2 ^ 32 = five_digits _ (length c.args.part.now) (c.in-Some.ensures {u = tt}).small c.if-part-gt5.false in
    omega (arith, small)
