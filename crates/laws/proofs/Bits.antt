-- Laws of bits and of their counts.
use Rattle.std.proofs.Common.{◌≡◌, ℕ, ◌-◌, ◌*◌, ◌%◌, ◌^◌, ◌<◌, ◌≤◌, sym, ap, ◌∙◌, arith, bit_and, bit_or}
use Rattle.std.proofs.Math.Nat.{mod-eq_of_lt}
use Rattle.std.proofs.lemmas.Nat.{and_mask, and_assoc, ones-le, leading_le}
use Rattle.std.proofs.lemmas.Nat.Bits.{same_from_bits, bit_at_or}
use Rattle.std.specs.Int.Bits.{or_zero_r, xor_zero_r, and_zero_r, xor_self, and_self, or_self, xor_assoc, and_comm, or_comm, xor_comm}
use Rattle.std.specs.Int.Count.{ones, count_leading_zeros}
use Rattle.bits_core.specs.Value.{limit, popcount, lzcount, zext}
use Rattle.bits_core.proofs.Limits.{limit_is, limit_least}

-- A2
pub and_ones : (w x : ℕ) → x < limit w → bit_and x (limit w - 1) ≡ x
and_ones w x p = rw (limit_is w) (and_mask x (8 * w)) ∙ ap (λ n. x % n) (sym (limit_is w)) ∙ mod-eq_of_lt p

-- A6
pub or_assoc : (a b c : ℕ) → bit_or (bit_or a b) c ≡ bit_or a (bit_or b c)
or_assoc a b c = same_from_bits (bit_or (bit_or a b) c) (bit_or a (bit_or b c)) (λ i. grind (arith, bit_at_or))

-- the others: A1 (or_zero_r, xor_zero_r), A3 (and_zero_r), A4 (xor_self, and_self, or_self), A6 and F2
pub ruleset bit_laws = (or_zero_r, xor_zero_r, and_zero_r, xor_self, and_self, or_self, and_assoc, or_assoc, xor_assoc, and_comm, or_comm, xor_comm, and_ones)

-- a count fits one byte, so a wider output only extends it
pub popcount_byte : (w v a : ℕ) → 0 < w → v ≤ 16 → a < limit v → popcount w a ≡ zext (popcount 1 a)
unfolding popcount zext
popcount_byte w v a some le p =
    let b : a < 2 ^ (8 * v) = omega (arith, limit_is v) in
    let l : ones a ≤ 8 * v = ones-le (8 * v) a b in
    mod-eq_of_lt (omega (arith, limit_least w some)) ∙ sym (mod-eq_of_lt (omega (arith, limit_least 1 (omega arith))))

pub lzcount_byte : (w v a : ℕ) → 0 < w → v ≤ 16 → lzcount v w a ≡ zext (lzcount v 1 a)
unfolding lzcount zext
lzcount_byte w v a some le =
    let l : count_leading_zeros (8 * v) a ≤ 8 * v = leading_le (8 * v) a in
    mod-eq_of_lt (omega (arith, limit_least w some)) ∙ sym (mod-eq_of_lt (omega (arith, limit_least 1 (omega arith))))
