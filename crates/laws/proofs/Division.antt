-- Laws of division.
use Rattle.std.proofs.Common.{◌≡◌, ◌≢◌, ℕ, suc, ◌-◌, ◌%◌, ◌/◌, ◌<◌, ◌≤◌, refl, ap, ◌∙◌, arith, true, false, ⊎_elim}
use Rattle.std.proofs.Math.Nat.{div-one, mod-one, zero-mod, div-le_self, div-lt_self}
use Rattle.std.specs.Prelude.{ℤ, pos, negsuc, Some, None, int_div, ◌==◌, if◌then◌else◌}
use Rattle.std.proofs.lemmas.Bool.Decides.{nat_tests}
use Rattle.std.proofs.lemmas.Int.{ints}
use Rattle.std.proofs.Math.IntN.{neg_ℤ}
use Rattle.bits_core.specs.declared.ops.Divide.{Divide}
use Rattle.bits_core.specs.Value.{limit, half, signed, word, fits, div, sdiv, srem, divide_value, quotient_or_rest}
use Rattle.bits_core.proofs.Limits.{limit_is, limit_up, halves}
use Rattle.bits_core.proofs.Signed.{signed_low, signed_high, signed_cases, word-signed, word_low}

-- where a division has a value
pub divide_none : (op : Divide) (w a : ℕ) → divide_value op w a 0 ≡ None
divide_none op w a = refl

pub divide_some : (op : Divide) (w a b : ℕ) → b ≢ 0 → divide_value op w a b ≡ Some (quotient_or_rest op w a b)
divide_some op w a b some =
    let e : (b == 0) ≡ false = grind (arith, nat_tests) in
    ap (λ t. if t then None else Some (quotient_or_rest op w a b)) e

-- A2
pub div_one : (x : ℕ) → div x 1 ≡ x
unfolding div
div_one x = div-one x

int_div_one : (z : ℤ) → int_div z (pos 1) ≡ z
int_div_one (pos n) = ap pos (div-one n)
int_div_one (negsuc n) = ap (λ k. neg_ℤ (pos k)) (div-one (suc n))

one_low : (w : ℕ) → 0 < w → 1 < half w
one_low w some = omega (arith, halves w some, limit_up 1 w some, limit_is 1)

pub sdiv_one : (w x : ℕ) → 0 < w → x < limit w → sdiv w x 1 ≡ x
unfolding sdiv
sdiv_one w x some h =
    ap (λ z. word w (int_div (signed w x) z)) (signed_low w 1 (one_low w some)) ∙ ap (word w) (int_div_one (signed w x)) ∙ word-signed w x some h

-- the least by minus one wraps to the least, with remainder 0
least : (w : ℕ) → 0 < w → signed w (half w) ≡ negsuc (half w - 1)
least w some =
    let hs = halves w some in
    let e : limit w - suc (half w) ≡ half w - 1 = omega (arith, hs) in
    signed_high w (half w) (omega arith) (omega (arith, hs)) ∙ ap negsuc e

minus_one : (w : ℕ) → 0 < w → signed w (limit w - 1) ≡ negsuc 0
minus_one w some =
    let hs = halves w some in
    let e : limit w - suc (limit w - 1) ≡ 0 = omega (arith, hs) in
    signed_high w (limit w - 1) (omega (arith, hs)) (omega (arith, hs)) ∙ ap negsuc e

pub sdiv_least : (w : ℕ) → 0 < w → sdiv w (half w) (limit w - 1) ≡ half w
unfolding sdiv
sdiv_least w some =
    let hs = halves w some in
    let e : suc (half w - 1) / 1 ≡ half w = div-one (suc (half w - 1)) ∙ omega (arith, hs) in
    rw (least w some, minus_one w some) (ap (λ n. n % limit w) e ∙ word_low w (half w) (omega (arith, hs)))

pub srem_least : (w : ℕ) → 0 < w → srem w (half w) (limit w - 1) ≡ 0
unfolding srem
srem_least w some =
    let e : suc (half w - 1) % 1 ≡ 0 = mod-one (suc (half w - 1)) in
    rw (least w some, minus_one w some) (ap (λ k. word w (neg_ℤ (pos k))) e ∙ zero-mod (limit w))

-- every other quotient fits, so C's signed division has it too
fits_pos : (w n : ℕ) → n < half w → fits w (pos n) ≡ true
fits_pos w n h = grind (arith, nat_tests, ints)

fits_neg : (w n : ℕ) → 0 < half w → n ≤ half w → fits w (neg_ℤ (pos n)) ≡ true
fits_neg w n some h = grind (arith, nat_tests, ints)

pub quotient_fits : (w a b : ℕ) → 0 < w → a < limit w → b < limit w → b ≢ 0 → b ≢ limit w - 1 → fits w (int_div (signed w a) (signed w b)) ≡ true
quotient_fits w a b some p q nonzero other =
    let hs = halves w some in
    let n = limit w - suc a in
    let m = limit w - suc b in
    ⊎_elim
    (λ (x : (a < half w) × (signed w a ≡ pos a)). ⊎_elim
    (λ (y : (b < half w) × (signed w b ≡ pos b)). rw (x.1, y.1) (fits_pos w (a / b) (omega (arith, div-le_self a b))))
    (λ (y : (half w ≤ b) × (signed w b ≡ negsuc m)). rw (x.1, y.1) (fits_neg w (a / suc m) hs.1 (omega (arith, div-le_self a (suc m)))))
    (signed_cases w b q))
    (λ (x : (half w ≤ a) × (signed w a ≡ negsuc n)). ⊎_elim
    (λ (y : (b < half w) × (signed w b ≡ pos b)). rw (x.1, y.1) (fits_neg w (suc n / b) hs.1 (omega (arith, hs, div-le_self (suc n) b))))
    (λ (y : (half w ≤ b) × (signed w b ≡ negsuc m)). rw (x.1, y.1) (fits_pos w (suc n / suc m) (omega (arith, hs, div-lt_self {n = suc n} {k = suc m} (omega arith) (omega (arith, hs))))))
    (signed_cases w b q))
    (signed_cases w a p)
