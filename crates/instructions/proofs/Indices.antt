-- Relative branches: the index that a signed count leads to.
use Rattle.std.proofs.Common.{◌≡◌, ℕ, zero, suc, ◌+◌, ◌-◌, ◌*◌, ◌/◌, ◌^◌, ◌<◌, ◌≤◌, ◌%◌, Bool, true, false, refl, sym, ap, ◌∙◌, ⊎_elim, arith, nat_lt}
use Rattle.std.specs.Prelude.{cond, pos, ◌+ℤ◌, ◌-ℤ◌}
use Rattle.std.proofs.lemmas.Int.{ints}
use Rattle.std.proofs.lemmas.Bool.{lt-ltb, le-ltb, cases_lt}
use Rattle.std.proofs.lemmas.Nat.{pow-add, pow_pos}
use Rattle.std.proofs.Math.Nat.{le-mul_of_pos_right, mod-eq_of_lt}
use Rattle.std.proofs.Math.Pow.{pow-lt}
use Rattle.bits_core.specs.Value.{limit, half, signed}
use Rattle.bits_core.proofs.Limits.{limit_is, half_is}
use Rattle.instructions.specs.Relative.{IsNegative}

half_by : (w : ℕ) → half w ≡ limit w / 2
unfolding half
half_by w = refl

pub limit_by : (w : ℕ) → w ≤ 8 → 1 * 2 ^ (8 * w) % 2 ^ 128 ≡ limit w
limit_by w le =
    let lt : 2 ^ (8 * w) < 2 ^ 128 = pow-lt {j = 128} (omega arith) in
    let e : 1 * 2 ^ (8 * w) ≡ 2 ^ (8 * w) = omega arith in
    ap (λ x. x % 2 ^ 128) e ∙ (mod-eq_of_lt lt ∙ sym (limit_is w))

pub forward : (w n a : ℕ) → a < half w → pos n +ℤ signed w a ≡ pos (n + a)
forward w n a lt =
    let e : nat_lt a (half w) ≡ true = lt-ltb a (half w) lt in
    ap (λ (b : Bool). pos n +ℤ cond b (pos a) (pos a -ℤ pos (limit w))) e ∙ omega (arith, ints)

-- a number of eight bytes is no negative count of a greater size
pub forward_wide : (w n a : ℕ) → 8 < w → a < 2 ^ 64 → pos n +ℤ signed w a ≡ pos (n + a)
forward_wide zero n a wide lt = absurd (omega arith)
forward_wide (suc w) n a wide lt =
    let k : ℕ = 8 * w + 7 - 64 in
    let e : 8 * w + 7 ≡ 64 + k = omega arith in
    let f : half (suc w) ≡ 2 ^ 64 * 2 ^ k = half_is w ∙ (ap (λ x. 2 ^ x) e ∙ pow-add 2 64 k) in
    let g : 2 ^ 64 ≤ 2 ^ 64 * 2 ^ k = le-mul_of_pos_right (2 ^ 64) (pow_pos k) in
    forward (suc w) n a (omega (arith, f, g))

pub forward_by : (w n a m : ℕ) → m ≡ limit w → a < m / 2 → pos n +ℤ signed w a ≡ pos (n + a)
forward_by w n a m e lt = forward w n a (omega (arith, half_by w, ap (λ x. x / 2) e))

back : (w n a : ℕ) → half w ≤ a → pos n +ℤ signed w a ≡ pos n +ℤ (pos a -ℤ pos (limit w))
back w n a le =
    let e : nat_lt a (half w) ≡ false = le-ltb a (half w) le in
    ap (λ (b : Bool). pos n +ℤ cond b (pos a) (pos a -ℤ pos (limit w))) e

pub back_by : (w n a m : ℕ) → m ≡ limit w → m / 2 ≤ a → m ≤ n + a → pos n +ℤ signed w a ≡ pos (n + a - m)
back_by w n a m e le fits =
    back w n a (omega (arith, half_by w, ap (λ x. x / 2) e))
    ∙ (ap (λ x. pos n +ℤ (pos a -ℤ pos x)) (sym e) ∙ omega (arith, ints))

pub back_past : (w n a m : ℕ) → m ≡ limit w → m / 2 ≤ a → n + a < m → IsNegative (pos n +ℤ signed w a)
back_past w n a m e le short = (
  m - (n + a) - 1,
  back w n a (omega (arith, half_by w, ap (λ x. x / 2) e))
      ∙ (ap (λ x. pos n +ℤ (pos a -ℤ pos x)) (sym e) ∙ omega (arith, ints)),
)

pub below : (m n : ℕ) → (n ≤ m → ⊥) → m < n
below m n over = ⊎_elim (λ h. h) (λ h. absurd (over h)) (cases_lt m n)
