-- Hexadecimal digits, read from left to right.
use Rattle.std.proofs.Common.{◌<◌, ◌≤◌, ◌+◌, ◌^◌, ◌*◌, ℕ, arith, lit<}
use Rattle.std.proofs.Math.Nat.{pow-le-pow_right}

-- one digit more fits 128 bits
pub digit_fits : (n d i : ℕ) → d < 16 → i < 32 → n < 16 ^ i → n * 16 + d < 2 ^ 128
digit_fits n d i digit few small =
    let power : 16 ^ i ≤ 16 ^ 31 = pow-le-pow_right (lit< tt) {j = 31} (omega arith) in
    omega (arith, power)
