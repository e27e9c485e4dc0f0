-- The number of bytes of a space, as a power of 2.
use Rattle.std.proofs.Common.{◌≡◌, ◌∙◌, ◌<◌, ◌≤◌, ◌+◌, ◌*◌, ◌%◌, ◌^◌, ℕ, zero, suc, false, ap, sym, refl, arith, lit<}
use Rattle.std.specs.Prelude.{nat_lt}
use Rattle.std.proofs.Math.Nat.{pow-suc, pow-le-pow_right}
use Rattle.std.proofs.lemmas.Nat.{pow-add}
use Rattle.std.proofs.lemmas.Bool.Decides.{nat_tests}

pub size_is : (n : ℕ) → 256 ^ n ≡ 2 ^ (8 * n)
size_is zero = refl
size_is (suc n) =
    let e : 8 * n + 8 ≡ 8 * suc n = omega arith in
    pow-suc 256 n ∙ ap (λ x. x * 256) (size_is n) ∙ sym (pow-add 2 (8 * n) 8) ∙ ap (λ k. 2 ^ k) e

-- an end that 65 bits hold is within a space whose offsets have more than 8 bytes
pub never_past : (size end : ℕ) → 8 < size → end < 2 ^ 65 → false ≡ nat_lt (256 ^ size) end
never_past size end wide small =
    let power : 256 ^ 9 ≤ 256 ^ size = pow-le-pow_right (lit< tt) wide in
    grind (arith, nat_tests, power)

-- a shift gives the number of bytes of a space whose offsets have at most 8
pub shift_is : (size : ℕ) → size ≤ 8 → 1 * 2 ^ (8 * size) % 2 ^ 128 ≡ 256 ^ size
shift_is size small =
    let power : 2 ^ (8 * size) ≤ 2 ^ 64 = pow-le-pow_right (lit< tt) {j = 64} (omega arith) in
    omega (arith, power, size_is size)
