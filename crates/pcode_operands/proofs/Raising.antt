-- Words of at most 8 bytes.
use Rattle.std.proofs.Common.{ℕ, ◌<◌, ◌≤◌, ◌^◌, arith, lit<}
use Rattle.std.proofs.Math.Nat.{pow-le-pow_right}
use Rattle.bits_core.specs.Value.{limit}

-- a word of at most 8 bytes fits 64 bits
pub narrow_small : (n w : ℕ) → w ≤ 8 → n < limit w → n < 2 ^ 64
unfolding limit
narrow_small n w few below =
    let most : 256 ^ w ≤ 256 ^ 8 = pow-le-pow_right (lit< tt) {i = w} {j = 8} few in
    omega (arith, most, below)
