use Rattle.std.proofs.Common.{arith, ◌*◌, ◌^◌, ◌≤◌, lit<}
use Rattle.std.proofs.Math.Nat.{pow-le-pow_right}
use Rattle.run_world.proofs.Sizes.{last_narrow}
use Rattle.run_world.proofs.shape.last_offset.Goals as goal

pub returns : goal.returns
returns c =
    let narrow = last_narrow c.args.size c.if-size-ge8.false in
    let most : 2 ^ (8 * c.args.size) ≤ 2 ^ 56 =
    pow-le-pow_right (lit< tt) {i = 8 * c.args.size} {j = 56} (omega (arith, c.if-size-ge8.false)) in
    rw c.from-bits.ensures (omega (arith, narrow, most))
