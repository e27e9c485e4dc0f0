-- A constant reduced to its size.
use Rattle.std.proofs.Common.{◌≡◌, ◌<◌, ◌≤◌, ◌*◌, ◌%◌, ◌^◌, ℕ, sym, arith, lit<}
use Rattle.std.proofs.Math.Nat.{mod-eq_of_lt, pow-le-pow_right}
use Rattle.pcode_model.proofs.Sizes.{size_is}

-- 64 bits fit a size of 8 bytes and more
pub stays : (offset size : ℕ) → 8 ≤ size → offset < 2 ^ 64 → offset ≡ offset % 256 ^ size
stays offset size wide fits =
    let power : 256 ^ 8 ≤ 256 ^ size = pow-le-pow_right (lit< tt) wide in
    let small : offset < 256 ^ size = omega (arith, power) in
    sym (mod-eq_of_lt small)

-- a shift of 64 bits gives the bytes of a smaller one
pub shift_is : (size : ℕ) → size < 8 → 1 * 2 ^ (8 * size) % 2 ^ 64 ≡ 256 ^ size
shift_is size small =
    let power : 2 ^ (8 * size) ≤ 2 ^ 56 = pow-le-pow_right (lit< tt) {j = 56} (omega arith) in
    omega (arith, power, size_is size)
