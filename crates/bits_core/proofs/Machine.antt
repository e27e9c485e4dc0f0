-- Numbers of 128 bits, as the machine holds them, and their reduction to a width.
use Rattle.std.proofs.Common.{◌≡◌, ℕ, suc, ◌+◌, ◌-◌, ◌*◌, ◌%◌, ◌/◌, ◌^◌, ◌<◌, ◌≤◌, refl, sym, ap, ◌∙◌, arith, bit_and, Bool, true, false, ⊎_elim}
use Rattle.std.proofs.Math.Nat.{mul-add-mod_self_right, mod-eq_of_lt, mod-lt, div-add-mod'}
use Rattle.std.proofs.Math.Pow.{mod-mod-pow}
use Rattle.std.proofs.lemmas.Nat.{pow-add, and_mask, div_below}
use Rattle.std.proofs.lemmas.Nat.Bits.{ones_shr}
use Rattle.std.proofs.lemmas.Bool.{cases_lt}
use Rattle.std.proofs.lemmas.Bool.Decides.{nat_tests}
use Rattle.std.proofs.lemmas.Int.{to_z_pos, to_z-of_z}
use Rattle.std.specs.Int.Signed.{mag}
use Rattle.std.specs.Prelude.{ℤ, pos, negsuc, IsTrue, ◌↔◌, FitsSigned}
use Rattle.std.specs.Int.{cast_signed, cast_unsigned, w128}
use Rattle.bits_core.specs.Value.{limit, half, signed, word}
use Rattle.bits_core.proofs.Limits.{limit_is, limit_pos, limit_up, halves}
use Rattle.bits_core.proofs.Signed.{signed_low, signed_high}

pub limit_most : (w : ℕ) → w ≤ 16 → limit w ≤ 2 ^ 128
limit_most w h = omega (arith, limit_up w 16 h, limit_is 16)

-- 2 ^ 128 is so many times the limit
pub many : (w : ℕ) → w ≤ 16 → 2 ^ 128 ≡ 2 ^ (128 - 8 * w) * limit w
many w le =
    let e : 128 ≡ (128 - 8 * w) + 8 * w = omega arith in
    ap (λ k. 2 ^ k) e ∙ pow-add 2 (128 - 8 * w) (8 * w) ∙ ap (λ x. 2 ^ (128 - 8 * w) * x) (sym (limit_is w))

-- a shorter remainder of one at 2 ^ 128
pub narrowed : (n w : ℕ) → w ≤ 16 → n % 2 ^ 128 % limit w ≡ n % limit w
narrowed n w le =
    let e : (128 - 8 * w) + 8 * w ≡ 128 = omega arith in
    rw (limit_is w) (ap (λ k. n % 2 ^ k % 2 ^ (8 * w)) (sym e) ∙ mod-mod-pow n (128 - 8 * w) (8 * w))

-- ---- masks

pub mask_is : (w : ℕ) → w ≤ 16 → (2 ^ 128 - 1) / 2 ^ (128 - 8 * w) ≡ limit w - 1
mask_is w le =
    let e : 128 - (128 - 8 * w) ≡ 8 * w = omega arith in
    ones_shr 128 (128 - 8 * w) (omega arith) ∙ ap (λ k. 2 ^ k - 1) e ∙ ap (λ x. x - 1) (sym (limit_is w))

pub masked : (n w : ℕ) → bit_and n (limit w - 1) ≡ n % limit w
masked n w = rw (limit_is w) (and_mask n (8 * w))

-- the sign bit's mask
pub half_mask : (w : ℕ) → 0 < w → (limit w - 1) / 2 ≡ half w - 1
half_mask w some = omega (arith, halves w some)

-- ---- signed numbers, whose bits are taken modulo 2 ^ 128

-- the bits of a negative number: so many times the limit, less n + 1
less_split : (l d s r : ℕ) → r < l → ((d + 1 + s) * l - suc (d * l + r)) % l ≡ l - 1 - r
less_split l d s r h =
    let e : (d + 1 + s) * l - suc (d * l + r) ≡ s * l + (l - 1 - r) = omega arith in
    let b : l - 1 - r < l = omega arith in
    ap (λ n. n % l) e ∙ mul-add-mod_self_right s l (l - 1 - r) ∙ mod-eq_of_lt b

pub less : (l q n : ℕ) → 0 < l → n < q * l → (q * l - suc n) % l ≡ l - 1 - n % l
less l q n some h =
    let d : n / l < q = div_below n l q some h in
    let e : q ≡ n / l + 1 + (q - (n / l + 1)) = omega arith in
    let f : n ≡ n / l * l + n % l = sym (div-add-mod' n l) in
    ap (λ q'. (q' * l - suc n) % l) e ∙ ap (λ n'. ((n / l + 1 + (q - (n / l + 1))) * l - suc n') % l) f ∙ less_split l (n / l) (q - (n / l + 1)) (n % l) (mod-lt n some)

-- the word of a signed number, from its bits
pub word_of_bits : (w : ℕ) (z : ℤ) → w ≤ 16 → mag z < 2 ^ 128 → cast_unsigned w128 z % limit w ≡ word w z
word_of_bits w (pos n) le f = refl
word_of_bits w (negsuc n) le f =
    let q = 2 ^ (128 - 8 * w) in
    let b : n < q * limit w = omega (arith, many w le) in
    ap (λ m. (m - suc n) % limit w) (many w le) ∙ less (limit w) q n (limit_pos w) b

-- a signed result is read as it was computed
pub same_signed : (r z : ℤ) → mag r < 2 ^ 127 → r ≡ z → cast_signed w128 (cast_unsigned w128 r) ≡ z
same_signed r z f e = to_z-of_z w128 r (record { sfits = f }) ∙ e

-- as `of_signed` computes it
pub word_of_signed : (w : ℕ) (z : ℤ) → w ≤ 16 → FitsSigned w128 z → cast_unsigned w128 (cast_signed w128 (cast_unsigned w128 z)) % limit w ≡ word w z
word_of_signed w z le f = ap (λ y. cast_unsigned w128 y % limit w) (to_z-of_z w128 z f) ∙ word_of_bits w z le (omega (arith, f.sfits))

cast_high : (n : ℕ) → 2 ^ 127 ≤ n → n < 2 ^ 128 → cast_signed w128 n ≡ negsuc (2 ^ 128 - suc n)
cast_high n h k = grind (arith, nat_tests)

word_of_cast : (w n : ℕ) → w ≤ 16 → n < 2 ^ 128 → word w (cast_signed w128 n) ≡ n % limit w
word_of_cast w n le h =
    ⊎_elim (λ lo. let lo' : n < 2 ^ 127 = lo in ap (word w) (to_z_pos w128 n lo'))
    (λ hi.
    let q = 2 ^ (128 - 8 * w) in
    let b : n < q * limit w = omega (arith, many w le) in
    let e : (2 ^ 128 - suc n) % limit w ≡ limit w - 1 - n % limit w = ap (λ m. (m - suc n) % limit w) (many w le) ∙ less (limit w) q n (limit_pos w) b in
    ap (word w) (cast_high n hi h) ∙ omega (arith, e, mod-lt n (limit_pos w)))
    (cases_lt n (2 ^ 127))

bits_below : (z : ℤ) → mag z < 2 ^ 128 → cast_unsigned w128 z < 2 ^ 128
bits_below (pos n) f = f
bits_below (negsuc n) f = omega arith

-- to read the bits again changes no word
pub word_again : (w : ℕ) (z : ℤ) → w ≤ 16 → mag z < 2 ^ 128 → word w (cast_signed w128 (cast_unsigned w128 z)) ≡ word w z
word_again w z le f = word_of_cast w (cast_unsigned w128 z) le (bits_below z f) ∙ word_of_bits w z le f

-- ---- a word as a signed number of 128 bits: with its sign bit set, and without

pub signed_wide : (w a : ℕ) → 0 < w → w ≤ 16 → half w ≤ a → a < limit w → cast_signed w128 (a + (2 ^ 128 - 1 - (limit w - 1))) ≡ signed w a
signed_wide w a some le h k =
    let hs = halves w some in
    let m = limit_most w le in
    let e : 2 ^ 128 - suc (a + (2 ^ 128 - 1 - (limit w - 1))) ≡ limit w - suc a = omega (arith, hs, m) in
    rw (signed_high w a h k) (cast_high (a + (2 ^ 128 - 1 - (limit w - 1))) (omega (arith, hs, m)) (omega (arith, hs, m)) ∙ ap negsuc e)

pub signed_short : (w a : ℕ) → 0 < w → w ≤ 16 → a < half w → cast_signed w128 a ≡ signed w a
signed_short w a some le h =
    rw (signed_low w a h) (to_z_pos w128 a (omega (arith, halves w some, limit_most w le)))

pub when_high : (t : Bool) (h v : ℕ) → (IsTrue t ↔ h ≤ v) → t ≡ true → h ≤ v
when_high t h v f e = f.0 e

pub when_low : (t : Bool) (h v : ℕ) → (IsTrue t ↔ h ≤ v) → t ≡ false → v < h
when_low t h v f e = grind arith
