use Rattle.std.proofs.Common.{◌%◌, ℕ, ap, arith}
use Rattle.pcodetext.proofs.Reducing.{shift_is, stays}
use Rattle.pcodetext.proofs.convert.reduced.Goals as goal

pub returns-then-size-ge8 : goal.returns-then-size-ge8
returns-then-size-ge8 c = rw c.if-space-ne0.false (stays c.args.offset c.args.size c.if-size-ge8.true (omega arith))

pub returns : goal.returns
returns c = rw c.if-space-ne0.false (ap (λ (n : ℕ). c.args.offset % n) (shift_is c.args.size (omega arith)))
