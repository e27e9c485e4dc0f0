-- Each operation as the code computes it in 128 bits, but for signed division.
use Rattle.std.proofs.Common.{◌≡◌, ℕ, zero, suc, ◌+◌, ◌-◌, ◌*◌, ◌%◌, ◌/◌, ◌^◌, ◌<◌, ◌≤◌, ◌⊎◌, refl, sym, ap, ◌∙◌, arith, bit_and, bit_or, bit_xor, subst, Bool, not, ltb, ⊎_elim, min}
use Rattle.std.proofs.Math.Nat.{add-mul-mod_self_right, mul-mod_left, mul_assoc, mod-eq_of_lt, mod-le, zero-mod, div-eq_of_lt, div-le_self, pow-le-pow_right}
use Rattle.std.proofs.lemmas.Nat.{pow-add, pow_pos, and_le_l, or_lt, xor_lt, or_shifted, leading_length, shl_whole}
use Rattle.std.proofs.lemmas.Bool.{cases_lt}
use Rattle.std.proofs.lemmas.Bool.Decides.{nat_tests}
use Rattle.std.specs.Prelude.{ℤ, pos, negsuc}
use Rattle.std.specs.Int.{cast_signed, cast_unsigned, w128}
use Rattle.std.specs.Int.Signed.{mag, lt_z, le_z, shr_z}
use Rattle.std.specs.Prelude.{IsTrue, ◌↔◌, ◌&&◌}
use Rattle.std.proofs.Math.Bool.{beq}
use Rattle.std.specs.Int.Count.{count_leading_zeros, leading_unique, ones}
use Rattle.bits_core.specs.Value.{limit, half, signed, word, neg, complement, add, sub, mul, left, right, concat, part, popcount, lzcount, flag, carry, scarry, sborrow, sext, slt, sle, sright, zext, div, rem}
use Rattle.bits_core.proofs.Limits.{limit_is, limit_pos, limit_up, limit-add, halves, add_cases, sub_cases}
use Rattle.bits_core.proofs.Signed.{signed_cases}
use Rattle.bits_core.proofs.Machine.{narrowed, many, less, limit_most, same_signed, word_again}

-- ---- arithmetic

pub add_by : (w a b : ℕ) → w ≤ 16 → (a + b) % 2 ^ 128 % limit w ≡ add w a b
unfolding add
add_by w a b le = narrowed (a + b) w le

pub mul_by : (w a b : ℕ) → w ≤ 16 → a * b % 2 ^ 128 % limit w ≡ mul w a b
unfolding mul
mul_by w a b le = narrowed (a * b) w le

one_less : (q l a b : ℕ) → 0 < q → b ≤ l → a + (q * l - b) ≡ (a + (l - b)) + (q - 1) * l
one_less zero l a b some low = absurd (omega arith)
one_less (suc p) l a b some low = let e : suc p - 1 ≡ p = omega arith in rw e (omega arith)

-- a difference that wraps at 2 ^ 128 wraps at the limit
pub sub_by : (w a b : ℕ) → w ≤ 16 → b < limit w → (a + (2 ^ 128 - b)) % 2 ^ 128 % limit w ≡ sub w a b
unfolding sub
sub_by w a b le low =
    let q = 2 ^ (128 - 8 * w) in
    let l = limit w in
    let some : 0 < q = pow_pos (128 - 8 * w) in
    let e : a + (q * l - b) ≡ (a + (l - b)) + (q - 1) * l = one_less q l a b some (omega arith) in
    narrowed (a + (2 ^ 128 - b)) w le ∙ ap (λ x. (a + (x - b)) % l) (many w le) ∙ ap (λ x. x % l) e ∙ add-mul-mod_self_right (a + (l - b)) (q - 1) l

pub neg_by : (w a : ℕ) → w ≤ 16 → a < limit w → (0 + (2 ^ 128 - a)) % 2 ^ 128 % limit w ≡ neg w a
unfolding neg sub
neg_by w a le low =
    let e : 0 + (limit w - a) ≡ limit w - a = omega arith in
    sub_by w 0 a le low ∙ ap (λ n. n % limit w) e

pub div_by : (a b : ℕ) → a / b ≡ div a b
unfolding div
div_by a b = refl

pub rem_by : (a b : ℕ) → a % b ≡ rem a b
unfolding rem
rem_by a b = refl

pub ruleset smaller = (div_by, rem_by, div-le_self, mod-le)

-- ---- bits

pub complement_by : (w a : ℕ) → w ≤ 16 → a < limit w → (2 ^ 128 - 1 - a) % limit w ≡ complement w a
unfolding complement
complement_by w a le low =
    let q = 2 ^ (128 - 8 * w) in
    let m = many w le in
    let b : a < q * limit w = omega (arith, limit_most w le) in
    let e : 2 ^ 128 - 1 - a ≡ 2 ^ 128 - suc a = omega arith in
    ap (λ n. n % limit w) e ∙ ap (λ n. (n - suc a) % limit w) m ∙ less (limit w) q a (limit_pos w) b ∙ ap (λ n. limit w - 1 - n) (mod-eq_of_lt low)

pub and_word : (w a b : ℕ) → a < limit w → bit_and a b < limit w
and_word w a b p = omega (arith, and_le_l a b)

pub or_word : (w a b : ℕ) → a < limit w → b < limit w → bit_or a b < limit w
or_word w a b p q =
    let p' : a < 2 ^ (8 * w) = omega (arith, limit_is w) in
    let q' : b < 2 ^ (8 * w) = omega (arith, limit_is w) in
    rw (limit_is w) (or_lt (8 * w) a b p' q')

pub xor_word : (w a b : ℕ) → a < limit w → b < limit w → bit_xor a b < limit w
xor_word w a b p q =
    let p' : a < 2 ^ (8 * w) = omega (arith, limit_is w) in
    let q' : b < 2 ^ (8 * w) = omega (arith, limit_is w) in
    rw (limit_is w) (xor_lt (8 * w) a b p' q')

pub ruleset kept = (and_word, or_word, xor_word)

-- shifts, and those that leave nothing
pub left_by : (w a n : ℕ) → w ≤ 16 → a * 2 ^ n % 2 ^ 128 % limit w ≡ left w a n
unfolding left
left_by w a n le = narrowed (a * 2 ^ n) w le

pub left_far : (w a n : ℕ) → w ≤ 16 → 128 ≤ n → 0 % limit w ≡ left w a n
unfolding left
left_far w a n le far =
    let e : n ≡ (n - 8 * w) + 8 * w = omega arith in
    zero-mod (limit w) ∙ sym (rw (limit_is w) (ap (λ k. a * 2 ^ k % 2 ^ (8 * w)) e ∙ ap (λ x. a * x % 2 ^ (8 * w)) (pow-add 2 (n - 8 * w) (8 * w)) ∙ ap (λ x. x % 2 ^ (8 * w)) (sym (mul_assoc a (2 ^ (n - 8 * w)) (2 ^ (8 * w)))) ∙ mul-mod_left (a * 2 ^ (n - 8 * w)) (2 ^ (8 * w))))

pub right_by : (w a n : ℕ) → a < limit w → a / 2 ^ n % limit w ≡ right a n
unfolding right
right_by w a n low = let b : a / 2 ^ n < limit w = omega arith in mod-eq_of_lt b

pub right_far : (w a n : ℕ) → w ≤ 16 → a < limit w → 128 ≤ n → 0 % limit w ≡ right a n
unfolding right
right_far w a n le low far =
    let l : 2 ^ 128 ≤ 2 ^ n = pow-le-pow_right (omega arith) far in
    let m : a < 2 ^ n = omega (arith, limit_most w le) in zero-mod (limit w) ∙ sym (div-eq_of_lt m)

pub ruleset lefts = (left_by, left_far)

pub ruleset rights = (right_by, right_far)

-- a shift by 127 leaves the sign, as does each further one
shr_far : (z : ℤ) (m k : ℕ) → mag z < m → mag z < k → shr_z z m ≡ shr_z z k
shr_far (pos a) m k f g = ap pos (div-eq_of_lt f ∙ sym (div-eq_of_lt g))
shr_far (negsuc a) m k f g = ap negsuc (div-eq_of_lt f ∙ sym (div-eq_of_lt g))

shr_most : (z : ℤ) (n : ℕ) → mag z < 2 ^ 127 → shr_z z (2 ^ min n 127) ≡ shr_z z (2 ^ n)
shr_most z n f =
    ⊎_elim (λ lo. let e : min n 127 ≡ n = omega arith in ap (λ k. shr_z z (2 ^ k)) e)
    (λ hi.
    let e : min n 127 ≡ 127 = omega arith in
    let l : 2 ^ 127 ≤ 2 ^ n = pow-le-pow_right (omega arith) hi in
    ap (λ k. shr_z z (2 ^ k)) e ∙ shr_far z (2 ^ 127) (2 ^ n) f (omega arith))
    (cases_lt n 127)

mag-shr : (z : ℤ) (m : ℕ) → mag (shr_z z m) ≤ mag z
mag-shr (pos a) m = div-le_self a m
mag-shr (negsuc a) m = div-le_self a m

pub sright_by : (w a n k : ℕ) (r : ℤ) → w ≤ 16 → mag r < 2 ^ 127 → r ≡ signed w a → k ≡ min n 127 → word w (cast_signed w128 (cast_unsigned w128 (shr_z (cast_signed w128 (cast_unsigned w128 r)) (2 ^ k)))) ≡ sright w a n
unfolding sright
sright_by w a n k r le f e is =
    let s = signed w a in
    let m : mag s < 2 ^ 127 = let P : ℤ → Type 0 = λ z. mag z < 2 ^ 127 in subst P e f in
    let l : mag (shr_z s (2 ^ min n 127)) < 2 ^ 128 = omega (arith, mag-shr s (2 ^ min n 127)) in
    ap (λ j. word w (cast_signed w128 (cast_unsigned w128 (shr_z (cast_signed w128 (cast_unsigned w128 r)) (2 ^ j))))) is
    ∙ ap (λ z. word w (cast_signed w128 (cast_unsigned w128 (shr_z z (2 ^ min n 127))))) (same_signed r s f e)
    ∙ word_again w (shr_z s (2 ^ min n 127)) le l ∙ ap (word w) (shr_most s n m)

pub popcount_by : (w a : ℕ) → ones a % limit w ≡ popcount w a
unfolding popcount
popcount_by w a = refl

-- leading zeros of 128 bits, of which a word has only the lower
pub leading_split : (w a : ℕ) → w ≤ 16 → a < limit w → count_leading_zeros 128 a ≡ (128 - 8 * w) + count_leading_zeros (8 * w) a
leading_split w a le low =
    let l : a < 2 ^ (8 * w) = omega (arith, limit_is w) in
    let p = leading_length (8 * w) a l in
    sym (leading_unique 128 a ((128 - 8 * w) + count_leading_zeros (8 * w) a) p.0 (omega (arith, p.1)) p.2 p.3)

pub leading_fits : (w a : ℕ) → w ≤ 16 → a < limit w → 128 - 8 * w ≤ count_leading_zeros 128 a
leading_fits w a le low = omega (arith, leading_split w a le low)

pub lzcount_by : (v w a k : ℕ) → v ≤ 16 → a < limit v → k ≡ 8 * v → (count_leading_zeros 128 a - (128 - k)) % limit w ≡ lzcount v w a
unfolding lzcount
lzcount_by v w a k le low e =
    ap (λ n. n % limit w) (omega (arith, leading_split v a le low))

-- ---- tests

pub slt_by : (w a b : ℕ) (r s : ℤ) → mag r < 2 ^ 127 → mag s < 2 ^ 127 → r ≡ signed w a → s ≡ signed w b → flag (lt_z (cast_signed w128 (cast_unsigned w128 r)) (cast_signed w128 (cast_unsigned w128 s))) ≡ slt w a b
unfolding slt
slt_by w a b r s f g e k = rw (same_signed r (signed w a) f e, same_signed s (signed w b) g k)

pub sle_by : (w a b : ℕ) (r s : ℤ) → mag r < 2 ^ 127 → mag s < 2 ^ 127 → r ≡ signed w a → s ≡ signed w b → flag (le_z (cast_signed w128 (cast_unsigned w128 r)) (cast_signed w128 (cast_unsigned w128 s))) ≡ sle w a b
unfolding sle
sle_by w a b r s f g e k = rw (same_signed r (signed w a) f e, same_signed s (signed w b) g k)

-- carries, by the sum and by the signs
pub carry_by : (w a b : ℕ) → a < limit w → b < limit w → flag (ltb (add w a b) a) ≡ carry w a b
unfolding carry
carry_by w a b p q = grind (arith, nat_tests, add_cases)

pub scarry_by : (w a b sum : ℕ) (r s t : Bool) → 0 < w → a < limit w → b < limit w → sum ≡ add w a b → (IsTrue r ↔ half w ≤ a) → (IsTrue s ↔ half w ≤ b) → (IsTrue t ↔ half w ≤ sum) → flag (beq r s && not (beq t r)) ≡ scarry w a b
unfolding scarry
scarry_by w a b sum r s t some p q e f g h = grind (arith, nat_tests, signed_cases, halves, add_cases)

pub sborrow_by : (w a b less : ℕ) (r s t : Bool) → 0 < w → a < limit w → b < limit w → less ≡ sub w a b → (IsTrue r ↔ half w ≤ a) → (IsTrue s ↔ half w ≤ b) → (IsTrue t ↔ half w ≤ less) → flag (not (beq r s) && not (beq t r)) ≡ sborrow w a b
unfolding sborrow
sborrow_by w a b less r s t some p q e f g h = grind (arith, nat_tests, signed_cases, halves, sub_cases)

-- ---- wider and narrower words

pub zext_by : (v w a : ℕ) → a < limit v → v ≤ w → a % limit w ≡ zext a
unfolding zext
zext_by v w a p le = let b : a < limit w = omega (arith, limit_up v w le) in mod-eq_of_lt b

pub sext_by : (v w a : ℕ) (r : ℤ) → mag r < 2 ^ 127 → r ≡ signed v a → word w (cast_signed w128 (cast_unsigned w128 r)) ≡ sext v w a
unfolding sext
sext_by v w a r f e = ap (word w) (same_signed r (signed v a) f e)

-- two words put together
pub concat_by : (u v a b : ℕ) → u + v ≤ 16 → a < limit u → b < limit v → bit_or (a * 2 ^ (8 * v) % 2 ^ 128) b % limit (u + v) ≡ concat v a b
unfolding concat
concat_by u v a b le p q =
    let p' : a < 2 ^ (8 * u) = omega (arith, limit_is u) in
    let q' : b < 2 ^ (8 * v) = omega (arith, limit_is v) in
    let m : suc a * limit v ≤ limit u * limit v = grind arith in
    let l : a * limit v + b < limit (u + v) = omega (arith, limit-add u v) in
    ap (λ n. bit_or n b % limit (u + v)) (shl_whole a (8 * u) (8 * v) 128 p' (omega arith)) ∙ ap (λ n. n % limit (u + v)) (or_shifted a (8 * v) b q' ∙ ap (λ n. a * n + b) (sym (limit_is v))) ∙ mod-eq_of_lt l

-- a part of a word, and one past it
pub part_by : (v a k : ℕ) → a / 2 ^ (8 * k) % limit v ≡ part a k v
unfolding part
part_by v a k = ap (λ n. a / n % limit v) (sym (limit_is k))

pub part_far : (w v a k : ℕ) → w ≤ 16 → a < limit w → 16 ≤ k → 0 % limit v ≡ part a k v
unfolding part
part_far w v a k le low far =
    let m : a < limit k = omega (arith, limit_up w k (omega arith)) in
    ap (λ n. n % limit v) (sym (div-eq_of_lt m))

pub ruleset parts = (part_by, part_far)
