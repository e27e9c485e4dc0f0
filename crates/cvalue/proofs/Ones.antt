-- The greatest word and the least signed one, by the machine's shifts.
use Rattle.std.proofs.Common.{◌≡◌, ◌≢◌, ℕ, ◌+◌, ◌-◌, ◌*◌, ◌/◌, ◌^◌, ◌<◌, ◌≤◌, ◌==◌, IsTrue, ◌↔◌, sym, ap, ◌∙◌, arith, eq-eqb}
use Rattle.std.proofs.lemmas.Bool.{eqb-true}
use Rattle.bits_core.specs.Value.{limit, half}
use Rattle.bits_core.proofs.Machine.{mask_is, half_mask}
use Rattle.bits_core.proofs.Limits.{halves}

pub record Ones (w ones : ℕ) : Type 0 where
  pub greatest : ones ≡ limit w - 1
  pub least : ones / 2 + 1 ≡ half w

pub ones_are : (w k : ℕ) → k ≡ w → 0 < w → w ≤ 16 → Ones w ((2 ^ 128 - 1) / 2 ^ (128 - 8 * k))
ones_are w k is some few =
    let e : (2 ^ 128 - 1) / 2 ^ (128 - 8 * k) ≡ limit w - 1 =
    ap (λ n. (2 ^ 128 - 1) / 2 ^ (128 - 8 * n)) is ∙ mask_is w few in
    let h = halves w some in
    let m : (2 ^ 128 - 1) / 2 ^ (128 - 8 * k) / 2 ≡ half w - 1 = ap (λ n. n / 2) e ∙ half_mask w some in
    record { greatest = e; least = omega (arith, m, h.1) }

pub when_least : (w ones a b : ℕ)
    → Ones w ones
    → a ≡ ones / 2 + 1
    → IsTrue (b == ones) ↔ ((a ≡ half w) × (b ≡ limit w - 1))
when_least w ones a b o same =
    ((λ h. (same ∙ o.least, eqb-true b ones h ∙ o.greatest)), (λ p. eq-eqb b ones (p.1 ∙ sym o.greatest)))

pub when_other : (w ones a b : ℕ)
    → Ones w ones
    → a ≢ ones / 2 + 1
    → IsTrue (a == ones / 2 + 1) ↔ ((a ≡ half w) × (b ≡ limit w - 1))
when_other w ones a b o other =
    ((λ h. absurd (other (eqb-true a (ones / 2 + 1) h))), (λ p. eq-eqb a (ones / 2 + 1) (p.0 ∙ sym o.least)))
