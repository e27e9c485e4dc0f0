-- Comparisons hold on arcs of the words.
use Rattle.std.proofs.Common.{◌≡◌, ℕ, ◌<◌, not, arith}
use Rattle.std.proofs.lemmas.Bool.Decides.{nat_tests}
use Rattle.bits_core.specs.Value.{limit, half, flag, add, sub, eq, ne, lt, le, slt, sle}
use Rattle.bits_core.proofs.Limits.{limit_least, halves, add_cases, sub_cases}
use Rattle.bits_core.proofs.Signed.{signed_cases}
use Rattle.word_sets.specs.Turns.{in_arc}

-- an arc moved back has the words that moved lie on it
pub arc-sub : (w a b m v : ℕ)
    → a < limit w
    → b < limit w
    → m < limit w
    → v < limit w
    → in_arc (sub w a m) (sub w b m) v ≡ in_arc a b (add w v m)
arc-sub w a b m v p q r s = grind (arith, nat_tests, add_cases, sub_cases)

-- the word after one that is moved back
pub add-sub_one : (w k m : ℕ) → 0 < w → k < limit w → m < limit w → add w (sub w k m) 1 ≡ sub w (add w k 1) m
add-sub_one w k m some p q = grind (arith, add_cases, sub_cases, limit_least)

-- ---- the words of each order

module _ (w k y : ℕ) (some : 0 < w) (p : k < limit w) (q : y < limit w) where
  pub eq_arc : flag (in_arc k (add w k 1) y) ≡ eq y k
  unfolding eq
  eq_arc = grind (arith, nat_tests, add_cases, limit_least)

  pub ne_arc : flag (not (in_arc k (add w k 1) y)) ≡ ne y k
  unfolding ne
  ne_arc = grind (arith, nat_tests, add_cases, limit_least)

  pub lt_arc : flag (in_arc 0 k y) ≡ lt y k
  unfolding lt
  lt_arc = grind (arith, nat_tests)

  pub gt_arc : flag (in_arc (add w k 1) 0 y) ≡ lt k y
  unfolding lt
  gt_arc = grind (arith, nat_tests, add_cases, limit_least)

  pub le_arc : flag (not (in_arc (add w k 1) 0 y)) ≡ le y k
  unfolding le
  le_arc = grind (arith, nat_tests, add_cases, limit_least)

  pub ge_arc : flag (not (in_arc 0 k y)) ≡ le k y
  unfolding le
  ge_arc = grind (arith, nat_tests)

  pub slt_arc : flag (in_arc (half w) k y) ≡ slt w y k
  unfolding slt
  slt_arc = grind (arith, nat_tests, signed_cases, halves)

  pub sgt_arc : flag (in_arc (add w k 1) (half w) y) ≡ slt w k y
  unfolding slt
  sgt_arc = grind (arith, nat_tests, signed_cases, halves, add_cases, limit_least)

  pub sle_arc : flag (not (in_arc (add w k 1) (half w) y)) ≡ sle w y k
  unfolding sle
  sle_arc = grind (arith, nat_tests, signed_cases, halves, add_cases, limit_least)

  pub sge_arc : flag (not (in_arc (half w) k y)) ≡ sle w k y
  unfolding sle
  sge_arc = grind (arith, nat_tests, signed_cases, halves)
