-- Signed words.
use Rattle.std.proofs.Common.{◌≡◌, ℕ, suc, ◌+◌, ◌-◌, ◌<◌, ◌≤◌, ◌⊎◌, ap, ◌∙◌, arith, inl, inr, ⊎_elim}
use Rattle.std.proofs.Math.Nat.{mod-eq_of_lt}
use Rattle.std.proofs.lemmas.Bool.{cases_lt}
use Rattle.std.proofs.lemmas.Bool.Decides.{nat_tests}
use Rattle.std.proofs.lemmas.Int.{ints}
use Rattle.std.specs.Prelude.{pos, negsuc}
use Rattle.bits_core.specs.Value.{limit, half, signed, word, sext}
use Rattle.bits_core.proofs.Limits.{limit_up, halves}

pub signed_low : (w a : ℕ) → a < half w → signed w a ≡ pos a
signed_low w a h = grind (arith, nat_tests)

pub signed_high : (w a : ℕ) → half w ≤ a → a < limit w → signed w a ≡ negsuc (limit w - suc a)
signed_high w a h k = grind (arith, nat_tests, ints)

pub signed_cases : (w a : ℕ) → a < limit w → ((a < half w) × (signed w a ≡ pos a)) ⊎ ((half w ≤ a) × (signed w a ≡ negsuc (limit w - suc a)))
signed_cases w a h = ⊎_elim (λ lo. inl (lo, signed_low w a lo)) (λ hi. inr (hi, signed_high w a hi h)) (cases_lt a (half w))

-- the two ways undo one another
pub word-signed : (w a : ℕ) → 0 < w → a < limit w → word w (signed w a) ≡ a
word-signed w a some h = grind (arith, nat_tests, signed_cases, halves, mod-eq_of_lt)

pub word_low : (w n : ℕ) → n < limit w → word w (pos n) ≡ n
word_low w n h = mod-eq_of_lt h

pub word_high : (w n : ℕ) → n < limit w → word w (negsuc n) ≡ limit w - 1 - n
word_high w n h = ap (λ k. limit w - 1 - k) (mod-eq_of_lt h)

pub signed-word_low : (w n : ℕ) → 0 < w → n < half w → signed w (word w (pos n)) ≡ pos n
signed-word_low w n some h =
    let l : n < limit w = omega (arith, halves w some) in
    rw (word_low w n l) (signed_low w n h)

pub signed-word_high : (w n : ℕ) → 0 < w → n < half w → signed w (word w (negsuc n)) ≡ negsuc n
signed-word_high w n some h =
    let hs = halves w some in
    let l : n < limit w = omega (arith, hs) in
    let e : limit w - suc (limit w - 1 - n) ≡ n = omega arith in
    rw (word_high w n l) (signed_high w (limit w - 1 - n) (omega (arith, hs)) (omega arith) ∙ ap negsuc e)

-- a sign extension by cases, linear in the limits
pub sext_cases : (v w a : ℕ) → v ≤ w → a < limit v → ((a < half v) × (sext v w a ≡ a)) ⊎ ((half v ≤ a) × (sext v w a + limit v ≡ a + limit w))
unfolding sext
sext_cases v w a le h =
    let up : limit v ≤ limit w = limit_up v w le in
    ⊎_elim (λ lo. inl (lo.0, ap (word w) lo.1 ∙ word_low w a (omega arith)))
    (λ hi. let l : limit v - suc a < limit w = omega arith in inr (hi.0, omega (arith, ap (word w) hi.1 ∙ word_high w (limit v - suc a) l)))
    (signed_cases v a h)
