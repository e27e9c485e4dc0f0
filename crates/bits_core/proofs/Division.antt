-- Signed division as the code computes it: by the absolute values, and then the sign.
use Rattle.std.proofs.Common.{◌≡◌, ℕ, ◌%◌, ◌/◌, ◌<◌, ◌≤◌, arith, Bool, true, false}
use Rattle.std.proofs.Math.Nat.{mod-eq_of_lt, mod-le, div-le_self}
use Rattle.std.proofs.Math.Bool.{beq}
use Rattle.std.proofs.lemmas.Bool.Decides.{nat_tests}
use Rattle.std.specs.Prelude.{IsTrue, ◌↔◌, unsigned_abs}
use Rattle.bits_core.specs.Value.{limit, half, signed, neg, sdiv, srem}
use Rattle.bits_core.proofs.Limits.{halves, neg_cases}
use Rattle.bits_core.proofs.Signed.{signed_cases}

-- the widths v of the dividend and w of the divisor are one
pub quotient_same : (v w a b p q : ℕ) (r s : Bool) → v ≡ w → 0 < v → a < limit v → b < limit w → (IsTrue r ↔ half v ≤ a) → (IsTrue s ↔ half w ≤ b) → p ≡ unsigned_abs (signed v a) → q ≡ unsigned_abs (signed w b) → beq r s ≡ true → p / q % limit v ≡ sdiv v a b
unfolding sdiv
quotient_same v w a b p q r s same some k l e f g h t = grind (arith, nat_tests, signed_cases, mod-eq_of_lt, div-le_self, halves)

pub quotient_other : (v w a b p q : ℕ) (r s : Bool) → v ≡ w → 0 < v → a < limit v → b < limit w → (IsTrue r ↔ half v ≤ a) → (IsTrue s ↔ half w ≤ b) → p ≡ unsigned_abs (signed v a) → q ≡ unsigned_abs (signed w b) → beq r s ≡ false → neg v (p / q % limit v) ≡ sdiv v a b
unfolding sdiv
quotient_other v w a b p q r s same some k l e f g h t = grind (arith, nat_tests, signed_cases, mod-eq_of_lt, div-le_self, halves, neg_cases)

pub remainder_low : (w a b p q : ℕ) (r : Bool) → 0 < w → a < limit w → b < limit w → (IsTrue r ↔ half w ≤ a) → p ≡ unsigned_abs (signed w a) → q ≡ unsigned_abs (signed w b) → r ≡ false → p % q % limit w ≡ srem w a b
unfolding srem
remainder_low w a b p q r some k l e g h t = grind (arith, nat_tests, signed_cases, mod-eq_of_lt, mod-le, halves)

pub remainder_high : (w a b p q : ℕ) (r : Bool) → 0 < w → a < limit w → b < limit w → (IsTrue r ↔ half w ≤ a) → p ≡ unsigned_abs (signed w a) → q ≡ unsigned_abs (signed w b) → r ≡ true → neg w (p % q % limit w) ≡ srem w a b
unfolding srem
remainder_high w a b p q r some k l e g h t = grind (arith, nat_tests, signed_cases, mod-eq_of_lt, mod-le, halves, neg_cases)

pub ruleset signed_remainders = (remainder_low, remainder_high)
