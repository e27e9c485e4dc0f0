-- The number of words of a width, and half of it.
use Rattle.std.proofs.Common.{◌≡◌, ℕ, zero, suc, ◌+◌, ◌-◌, ◌*◌, ◌%◌, ◌/◌, ◌^◌, ◌<◌, ◌≤◌, ◌⊎◌, refl, sym, ap, ◌∙◌, arith, inl, inr, ⊎_elim}
use Rattle.std.proofs.Math.Nat.{pow-suc, mod-eq_of_lt, mod-eq-sub-mod, le-mul_of_pos_right}
use Rattle.std.proofs.lemmas.Nat.{pow-add, pow_pos, div-mul-add}
use Rattle.std.proofs.lemmas.Bool.{cases_lt}
use Rattle.bits_core.specs.Value.{limit, half, add, sub, neg}

pub limit_is : (w : ℕ) → limit w ≡ 2 ^ (8 * w)
unfolding limit
limit_is zero = refl
limit_is (suc w) =
    let e : 8 * w + 8 ≡ 8 * suc w = omega arith in
    pow-suc 256 w ∙ ap (λ x. x * 256) (limit_is w) ∙ sym (pow-add 2 (8 * w) 8) ∙ ap (λ k. 2 ^ k) e

pow-suc' : (w : ℕ) → limit (suc w) ≡ limit w * 256
unfolding limit
pow-suc' w = pow-suc 256 w

pub limit_pos : (w : ℕ) → 0 < limit w
limit_pos w = rw (limit_is w) (pow_pos (8 * w))

pub half_is : (w : ℕ) → half (suc w) ≡ 2 ^ (8 * w + 7)
unfolding half
half_is w =
    let e : 8 * suc w ≡ (8 * w + 7) + 1 = omega arith in
    let f : limit (suc w) ≡ 2 ^ (8 * w + 7) * 2 + 0 = limit_is (suc w) ∙ ap (λ k. 2 ^ k) e ∙ pow-add 2 (8 * w + 7) 1 ∙ omega arith in
    ap (λ x. x / 2) f ∙ div-mul-add (2 ^ (8 * w + 7)) 2 0 (omega arith)

-- all that linear proofs need of the two numbers
pub halves : (w : ℕ) → 0 < w → (limit w ≡ half w + half w) × (0 < half w)
halves zero some = absurd (omega arith)
halves (suc w) some =
    let e : 8 * suc w ≡ (8 * w + 7) + 1 = omega arith in
    let f : limit (suc w) ≡ 2 ^ (8 * w + 7) * 2 = limit_is (suc w) ∙ ap (λ k. 2 ^ k) e ∙ pow-add 2 (8 * w + 7) 1 in
    (f ∙ omega (arith, half_is w), rw (half_is w) (pow_pos (8 * w + 7)))

-- a number below twice the limit, reduced
pub reduced : (m n : ℕ) → n < m + m → ((n < m) × (n % m ≡ n)) ⊎ ((m ≤ n) × (n % m + m ≡ n))
reduced m n h =
    ⊎_elim (λ lo. inl (lo, mod-eq_of_lt lo))
    (λ hi. let lo : n - m < m = omega arith in inr (hi, omega (arith, mod-eq-sub-mod hi, mod-eq_of_lt lo)))
    (cases_lt n m)

-- sums, differences and negations by cases, linear in the limit
pub add_cases : (w a b : ℕ) → a < limit w → b < limit w → ((a + b < limit w) × (add w a b ≡ a + b)) ⊎ ((limit w ≤ a + b) × (add w a b + limit w ≡ a + b))
unfolding add
add_cases w a b p q = reduced (limit w) (a + b) (omega arith)

pub sub_cases : (w a b : ℕ) → a < limit w → b < limit w → ((a < b) × (sub w a b + b ≡ a + limit w)) ⊎ ((b ≤ a) × (sub w a b + b ≡ a))
unfolding sub
sub_cases w a b p q =
    ⊎_elim (λ h. inl (omega arith, omega arith)) (λ h. inr (omega arith, omega arith)) (reduced (limit w) (a + (limit w - b)) (omega arith))

pub neg_cases : (w a : ℕ) → a < limit w → ((a ≡ 0) × (neg w a ≡ 0)) ⊎ ((0 < a) × (neg w a + a ≡ limit w))
unfolding neg
neg_cases w a p =
    ⊎_elim (λ h. inr (omega arith, omega arith)) (λ h. inl (omega arith, omega arith)) (reduced (limit w) (limit w - a) (omega (arith, limit_pos w)))

pub limit-add : (i j : ℕ) → limit (i + j) ≡ limit i * limit j
limit-add i j =
    let e : 8 * (i + j) ≡ 8 * i + 8 * j = omega arith in
    rw (limit_is (i + j), limit_is i, limit_is j) (ap (λ k. 2 ^ k) e ∙ pow-add 2 (8 * i) (8 * j))

pub limit_up : (i j : ℕ) → i ≤ j → limit i ≤ limit j
limit_up i j h =
    let e : i + (j - i) ≡ j = omega arith in
    let s : 0 < limit (j - i) = limit_pos (j - i) in
    rw (← e) (omega (arith, limit-add i (j - i), le-mul_of_pos_right (limit i) s))

-- a narrower word is below half
pub limit-half : (i j : ℕ) → i < j → limit i < half j
limit-half i j h =
    let e : limit (suc i) ≡ limit i * 256 = pow-suc' i in
    omega (arith, e, limit_up (suc i) j h, halves j (omega arith), limit_pos i)

pub limit_least : (w : ℕ) → 0 < w → 256 ≤ limit w
limit_least w some = omega (arith, limit_up 1 w some, limit_is 1)
