-- Laws of shifts.
use Rattle.std.proofs.Common.{◌≡◌, ℕ, zero, suc, ◌+◌, ◌-◌, ◌*◌, ◌%◌, ◌/◌, ◌^◌, ◌<◌, ◌≤◌, sym, ap, ◌∙◌, arith}
use Rattle.std.proofs.Math.Nat.{mod-eq_of_lt, div-eq_of_lt, div-one, mul-mod_left, mul_assoc, pow-le-pow_right}
use Rattle.std.proofs.lemmas.Nat.{pow-add}
use Rattle.std.specs.Prelude.{ℤ, pos, negsuc}
use Rattle.std.specs.Int.{int_shr}
use Rattle.std.specs.Int.Signed.{shr_z}
use Rattle.bits_core.specs.Value.{limit, half, left, right, sright, signed, word}
use Rattle.bits_core.proofs.Limits.{limit_is, half_is, halves}
use Rattle.bits_core.proofs.Signed.{signed_cases, word-signed}

-- A1
pub left_zero : (w x : ℕ) → x < limit w → left w x 0 ≡ x
unfolding left
left_zero w x p = grind (arith, mod-eq_of_lt)

pub right_zero : (x : ℕ) → right x 0 ≡ x
unfolding right
right_zero x = div-one x

int_shr_zero : (z : ℤ) → int_shr z 0 ≡ z
int_shr_zero (pos n) = ap pos (div-one n)
int_shr_zero (negsuc n) = ap negsuc (div-one n)

pub sright_zero : (w x : ℕ) → 0 < w → x < limit w → sright w x 0 ≡ x
unfolding sright
sright_zero w x some p = ap (word w) (int_shr_zero (signed w x)) ∙ word-signed w x some p

-- S1
pub left_out : (w x n : ℕ) → 8 * w ≤ n → left w x n ≡ 0
unfolding left
left_out w x n h =
    let e : n ≡ (n - 8 * w) + 8 * w = omega arith in
    rw (limit_is w) (ap (λ k. x * 2 ^ k % 2 ^ (8 * w)) e ∙ ap (λ m. x * m % 2 ^ (8 * w)) (pow-add 2 (n - 8 * w) (8 * w)) ∙ ap (λ m. m % 2 ^ (8 * w)) (sym (mul_assoc x (2 ^ (n - 8 * w)) (2 ^ (8 * w)))) ∙ mul-mod_left (x * 2 ^ (n - 8 * w)) (2 ^ (8 * w)))

pub right_out : (w x n : ℕ) → x < limit w → 8 * w ≤ n → right x n ≡ 0
unfolding right
right_out w x n p h =
    let l : 2 ^ (8 * w) ≤ 2 ^ n = pow-le-pow_right (omega arith) h in
    let m : x < 2 ^ n = omega (arith, limit_is w) in div-eq_of_lt m

-- S2: past the bits all are sign bits
signs : (w : ℕ) (z : ℕ) (m : ℕ) → half w ≤ m → z < half w → z / m ≡ 0
signs w z m h k = let l : z < m = omega arith in div-eq_of_lt l

half_pow : (w n : ℕ) → 0 < w → 8 * w - 1 ≤ n → half w ≤ 2 ^ n
half_pow zero n some h = absurd (omega arith)
half_pow (suc w) n some h =
    let k : 8 * w + 7 ≤ n = omega arith in
    let l : 2 ^ (8 * w + 7) ≤ 2 ^ n = pow-le-pow_right (omega arith) k in
    omega (arith, half_is w)

only_sign : (w x m : ℕ) → 0 < w → half w ≤ m → x < limit w → shr_z (signed w x) m ≡ shr_z (signed w x) (half w)
only_sign w x m some h p = grind (arith, signed_cases, signs, halves)

pub sright_out : (w x n : ℕ) → 0 < w → x < limit w → 8 * w ≤ n → sright w x n ≡ sright w x (8 * w - 1)
unfolding sright
sright_out w x n some p h =
    let a = half_pow w n some (omega arith) in
    let b = half_pow w (8 * w - 1) some (omega arith) in
    ap (word w) (only_sign w x (2 ^ n) some a p ∙ sym (only_sign w x (2 ^ (8 * w - 1)) some b p))
