-- Laws of parts of words, of words put together and of extensions.
use Rattle.std.proofs.Common.{◌≡◌, ℕ, ◌+◌, ◌-◌, ◌*◌, ◌%◌, ◌/◌, ◌^◌, ◌<◌, ◌≤◌, refl, sym, ap, ◌∙◌, arith, subst}
use Rattle.std.proofs.Math.Nat.{mod-eq_of_lt, div-eq_of_lt, div-one, div-div-eq-div-mul, mul-add-div_right, mul-add-mod_self_right, mul_assoc}
use Rattle.std.proofs.Math.Pow.{mod-mod-pow}
use Rattle.std.proofs.lemmas.Nat.{field_of, mod-pow-add, div_below}
use Rattle.bits_core.specs.Value.{limit, part, concat, zext, sext}
use Rattle.bits_core.proofs.Limits.{limit_pos, limit_is, limit-add, limit_up, limit-half, halves}
use Rattle.bits_core.proofs.Signed.{sext_cases}

-- std's laws of fields, in bytes
field : (n j k : ℕ) → n % limit (j + k) / limit k ≡ n / limit k % limit j
field n j k =
    let e : 8 * (j + k) ≡ 8 * j + 8 * k = omega arith in
    rw (limit_is (j + k), limit_is j, limit_is k) (ap (λ b. n % 2 ^ b / 2 ^ (8 * k)) e ∙ field_of n (8 * j) (8 * k))

-- a narrower word of a word's low bytes
pub narrower : (n j k : ℕ) → n % limit (j + k) % limit k ≡ n % limit k
narrower n j k =
    let e : 8 * (j + k) ≡ 8 * j + 8 * k = omega arith in
    rw (limit_is (j + k), limit_is k) (ap (λ b. n % 2 ^ b % 2 ^ (8 * k)) e ∙ mod-mod-pow n (8 * j) (8 * k))

pub both : (n j k : ℕ) → n % limit (j + k) ≡ (n / limit k % limit j) * limit k + n % limit k
both n j k =
    let e : 8 * (j + k) ≡ 8 * j + 8 * k = omega arith in
    rw (limit_is (j + k), limit_is j, limit_is k) (ap (λ b. n % 2 ^ b) e ∙ mod-pow-add n (8 * j) (8 * k))

dropped : (n j k : ℕ) → n / limit j / limit k ≡ n / limit (j + k)
dropped n j k = div-div-eq-div-mul n (limit j) (limit k) ∙ ap (λ d. n / d) (sym (limit-add j k))

-- the whole, where Z1 to Z4 leave all of a word
pub part_whole : (x w : ℕ) → x < limit w → part x 0 w ≡ x
unfolding part limit
part_whole x w h = ap (λ n. n % limit w) (div-one x) ∙ mod-eq_of_lt h

-- Z1: wholly in the low part
part_low' : (x y k w r : ℕ) → part (concat (r + w + k) x y) k w ≡ part y k w
unfolding part concat
part_low' x y k w r =
    let e : x * limit (r + w + k) + y ≡ (x * limit r * limit w) * limit k + y = simp (limit-add, mul_assoc) in
    ap (λ n. n / limit k % limit w) e ∙ ap (λ n. n % limit w) (mul-add-div_right (limit_pos k) (x * limit r * limit w) y) ∙ mul-add-mod_self_right (x * limit r) (limit w) (y / limit k)

pub part_low : (v x y k w : ℕ) → k + w ≤ v → part (concat v x y) k w ≡ part y k w
part_low v x y k w h =
    let e : v ≡ (v - (k + w)) + w + k = omega arith in
    ap (λ n. part (concat n x y) k w) e ∙ part_low' x y k w (v - (k + w))

-- Z1: wholly in the high part
pub part_high : (v x y k w : ℕ) → y < limit v → v ≤ k → part (concat v x y) k w ≡ part x (k - v) w
unfolding part concat
part_high v x y k w p h =
    let e : k ≡ v + (k - v) = omega arith in
    let d : (x * limit v + y) / limit v ≡ x = mul-add-div_right (limit_pos v) x y ∙ omega (arith, div-eq_of_lt p) in
    ap (λ n. (x * limit v + y) / limit n % limit w) e ∙ ap (λ n. n % limit w) (sym (dropped (x * limit v + y) v (k - v)) ∙ ap (λ n. n / limit (k - v)) d)

-- Z2: within x, past x, and wider than x
pub part_within : (x k w : ℕ) → part (zext x) k w ≡ part x k w
unfolding zext
part_within x k w = refl

pub part_past : (v x k w : ℕ) → x < limit v → v ≤ k → part (zext x) k w ≡ 0
unfolding part zext
part_past v x k w p h =
    let l : x < limit k = omega (arith, limit_up v k h) in
    ap (λ n. n % limit w) (div-eq_of_lt l) ∙ mod-eq_of_lt (limit_pos w)

pub part_wider : (v x w : ℕ) → x < limit v → v ≤ w → part (zext x) 0 w ≡ zext x
unfolding zext
part_wider v x w p h = part_whole x w (omega (arith, limit_up v w h))

-- a part of x itself that goes past its top: 0, or what is left of x extended
pub part_out : (v x k w : ℕ) → x < limit v → v ≤ k → part x k w ≡ 0
part_out v x k w p h = sym (part_within x k w) ∙ part_past v x k w p h

pub part_over : (v x k w : ℕ) → x < limit v → k ≤ v → v ≤ k + w → part x k w ≡ zext (part x k (v - k))
unfolding part zext
part_over v x k w p h o =
    let e : v ≡ (v - k) + k = omega arith in
    let m : x < limit (v - k) * limit k = subst (λ n. x < n) (ap limit e ∙ limit-add (v - k) k) p in
    let d : x / limit k < limit (v - k) = div_below x (limit k) (limit (v - k)) (limit_pos k) m in
    mod-eq_of_lt (omega (arith, limit_up (v - k) w (omega arith))) ∙ sym (mod-eq_of_lt d)

-- Z3
part_part' : (x j k w r : ℕ) → part (part x j (r + w + k)) k w ≡ part x (j + k) w
unfolding part
part_part' x j k w r =
    ap (λ n. n % limit w) (field (x / limit j) (r + w) k) ∙ narrower (x / limit j / limit k) r w ∙ ap (λ n. n % limit w) (dropped x j k)

pub part_part : (x j v k w : ℕ) → k + w ≤ v → part (part x j v) k w ≡ part x (j + k) w
part_part x j v k w h =
    let e : v ≡ (v - (k + w)) + w + k = omega arith in
    ap (λ n. part (part x j n) k w) e ∙ part_part' x j k w (v - (k + w))

-- Z4
pub parts_joined : (x k a b : ℕ) → concat b (part x (k + b) a) (part x k b) ≡ part x k (a + b)
unfolding part concat
parts_joined x k a b =
    ap (λ n. n % limit a * limit b + x / limit k % limit b) (sym (dropped x k b)) ∙ sym (both (x / limit k) a b)

-- Z5
pub concat_zero : (v y : ℕ) → concat v 0 y ≡ zext y
unfolding concat zext
concat_zero v y = omega arith

-- Z6
pub zext_zext : (x : ℕ) → zext (zext x) ≡ zext x
unfolding zext
zext_zext x = refl

pub sext_zext : (u v w x : ℕ) → u < v → v ≤ w → x < limit u → sext v w (zext x) ≡ zext x
unfolding zext
sext_zext u v w x h k p = grind (arith, sext_cases, limit-half, limit_up)

pub sext_sext : (u v w x : ℕ) → 0 < u → u ≤ v → v ≤ w → x < limit u → sext v w (sext u v x) ≡ sext u w x
sext_sext u v w x some h k p = grind (arith, sext_cases, halves, limit_up)
