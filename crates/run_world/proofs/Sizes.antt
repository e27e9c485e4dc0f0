-- The last offset of a space.
use Rattle.std.proofs.Common.{◌≡◌, ◌<◌, ◌≤◌, ◌+◌, ◌-◌, ◌*◌, ◌^◌, ℕ, arith, lit<}
use Rattle.std.proofs.Math.Nat.{pow-le-pow_right}
use Rattle.pcode_model.proofs.Sizes.{size_is}

-- a space whose offsets have 8 bytes or more, and at most 2 to the 64 bytes, has just so many
pub last_wide : (size : ℕ) → 8 ≤ size → 256 ^ size ≤ 2 ^ 64 → 2 ^ 64 - 1 + 1 ≡ 256 ^ size
last_wide size wide small =
    let power : 256 ^ 8 ≤ 256 ^ size = pow-le-pow_right (lit< tt) wide in
    omega (arith, power)

pub last_narrow : (size : ℕ) → size < 8 → 2 ^ (8 * size) - 1 + 1 ≡ 256 ^ size
last_narrow size narrow =
    let some : 2 ^ 0 ≤ 2 ^ (8 * size) = pow-le-pow_right (lit< tt) {i = 0} {j = 8 * size} (omega arith) in
    omega (arith, some, size_is size)
