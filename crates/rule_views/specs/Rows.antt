-- Of which row of the table a rule is.
use Rattle.std.specs.Prelude.{◌≡◌, ℕ}
use Rattle.cmeaning.specs.declared.tree.Expr.{Expr}
use Rattle.rules.specs.Arithmetic.{Summing, A1, A2_mul, A2_and, A2_div, A2_sdiv, A3, A4_none, A4_same, A5_add_add, A5_add_add_over, A5_sub_sub, A5_add_sub, A5_add_sub_over, A5_sub_add, A6, A6_over, A7, A8_add, A8_sub}
use Rattle.rules.specs.Shifts.{Shifting, A1_shift, S1, S2}
use Rattle.rules.specs.Parts.{Parting, Z1_low, Z1_low_whole, Z1_high, Z1_high_whole, Z2_within, Z2_whole, Z2_past, Z2_wider, Z3, Z4, Z4_whole, Z5, Z6_zext, Z6_sext}
use Rattle.rules.specs.Booleans.{Deciding, B1_xor, B1_eq, B1_ne, B2_ne, B2_eq}
use Rattle.rules.specs.Comparisons.{Comparing, C1_sub, C1_xor, C2_add, C2_add_over, C2_sub, C3_ne, C3_eq, C4_signed, C4_signed_over, C4, C4_over, C5_signed, C5_signed_over, C5, C5_over, C6, C7_below_zero, C7_from_zero, C7_below_one, C7_to_zero, C8, C8_signed}
use Rattle.rules.specs.Table.{Form, OfFolds, OfArithmetic, OfShifts, OfParts, OfBooleans, OfComparisons, Rule, AsNamed, Turned, TurnedTest, TurnedFlag, F2, F2_test}
use Rattle.rule_views.specs.declared.row.Row.{Row}
use Rattle.rule_views.specs.declared.row.Row.TheVariants as R
use Rattle.rule_views.specs.Fires.{Family}

abbrev pub summing_row : (ws : ℕ → ℕ) (l r : Expr) → Summing ws l r → Row
summing_row ws l r (A1 op x c k z) = R.A1
summing_row ws l r (A2_mul x c o) = R.A2
summing_row ws l r (A2_and x c o) = R.A2
summing_row ws l r (A2_div x c o) = R.A2
summing_row ws l r (A2_sdiv x c o) = R.A2
summing_row ws l r (A3 op x c k z) = R.A3
summing_row ws l r (A4_none op x z k a w n) = R.A4
summing_row ws l r (A4_same op x k a) = R.A4
summing_row ws l r (A5_add_add x c d e f) = R.A5
summing_row ws l r (A5_add_add_over x c d e f) = R.A5
summing_row ws l r (A5_sub_sub x c d e f) = R.A5
summing_row ws l r (A5_add_sub x c d e f) = R.A5
summing_row ws l r (A5_add_sub_over x c d e f) = R.A5
summing_row ws l r (A5_sub_add x c d e f) = R.A5
summing_row ws l r (A6 op x c d e b f) = R.A6
summing_row ws l r (A6_over op x c d e b f) = R.A6
summing_row ws l r (A7 op x) = R.A7
summing_row ws l r (A8_add x y) = R.A8
summing_row ws l r (A8_sub x y) = R.A8

abbrev pub shifting_row : (ws : ℕ → ℕ) (l r : Expr) → Shifting ws l r → Row
shifting_row ws l r (A1_shift op x c z) = R.A1
shifting_row ws l r (S1 op x c z n w m v) = R.S1
shifting_row ws l r (S2 x w c e i m v) = R.S2

abbrev pub parting_row : (ws : ℕ → ℕ) (l r : Expr) → Parting ws l r → Row
parting_row ws l r (Z1_low x y k u w i m n) = R.Z1
parting_row ws l r (Z1_low_whole x y w i) = R.Z1
parting_row ws l r (Z1_high x y k t u w i j m n) = R.Z1
parting_row ws l r (Z1_high_whole x y k w i j) = R.Z1
parting_row ws l r (Z2_within x k u v w i m n) = R.Z2
parting_row ws l r (Z2_whole x v w i) = R.Z2
parting_row ws l r (Z2_past x k u v w z i m n) = R.Z2
parting_row ws l r (Z2_wider x u v w i m) = R.Z2
parting_row ws l r (Z3 x j k v w) = R.Z3
parting_row ws l r (Z4 x j k t a b c o m n i p) = R.Z4
parting_row ws l r (Z4_whole x j a b o m i) = R.Z4
parting_row ws l r (Z5 y u c w z i m) = R.Z5
parting_row ws l r (Z6_zext op x v w) = R.Z6
parting_row ws l r (Z6_sext x v w) = R.Z6

abbrev pub deciding_row : (l r : Expr) → Deciding l r → Row
deciding_row l r (B1_xor k n c m v) = R.B1
deciding_row l r (B1_eq k n c m v) = R.B1
deciding_row l r (B1_ne k n c m v) = R.B1
deciding_row l r (B2_ne b c t v) = R.B2
deciding_row l r (B2_eq b c t v) = R.B2

abbrev pub comparing_row : (l r : Expr) → Comparing l r → Row
comparing_row l r (C1_sub op x y c q z) = R.C1
comparing_row l r (C1_xor op x y c q z) = R.C1
comparing_row l r (C2_add op x c d e q f) = R.C2
comparing_row l r (C2_add_over op x c d e q f) = R.C2
comparing_row l r (C2_sub op x c d e q f) = R.C2
comparing_row l r (C3_ne x y c a b z) = R.C3
comparing_row l r (C3_eq x y c a b z) = R.C3
comparing_row l r (C4_signed x y a b) = R.C4
comparing_row l r (C4_signed_over x y a b) = R.C4
comparing_row l r (C4 x y a b) = R.C4
comparing_row l r (C4_over x y a b) = R.C4
comparing_row l r (C5_signed x y a b) = R.C5
comparing_row l r (C5_signed_over x y a b) = R.C5
comparing_row l r (C5 x y a b) = R.C5
comparing_row l r (C5_over x y a b) = R.C5
comparing_row l r (C6 op x c z v w) = R.C6
comparing_row l r (C7_below_zero x c z v w) = R.C7
comparing_row l r (C7_from_zero x c o v w) = R.C7
comparing_row l r (C7_below_one x c z v w) = R.C7
comparing_row l r (C7_to_zero x c v) = R.C7
comparing_row l r (C8 op x o a w) = R.C8
comparing_row l r (C8_signed op x o a w) = R.C8

abbrev pub form_row : (ws : ℕ → ℕ) (l r : Expr) → Form ws l r → Row
form_row ws l r (OfFolds a b f) = R.F1
form_row ws l r (OfArithmetic a b f) = summing_row ws a b f
form_row ws l r (OfShifts a b f) = shifting_row ws a b f
form_row ws l r (OfParts a b f) = parting_row ws a b f
form_row ws l r (OfBooleans a b f) = deciding_row a b f
form_row ws l r (OfComparisons a b f) = comparing_row a b f

abbrev pub rule_row : (ws : ℕ → ℕ) (l r : Expr) → Rule ws l r → Row
rule_row ws l r (AsNamed a b f) = form_row ws a b f
rule_row ws l r (Turned op x y c k f) = form_row ws _ c f
rule_row ws l r (TurnedTest op x y c k f) = form_row ws _ c f
rule_row ws l r (TurnedFlag op x y c k f) = form_row ws _ c f
rule_row ws l r (F2 op c x k n) = R.F2
rule_row ws l r (F2_test op c x k n) = R.F2

-- ---- the rules of one row

abbrev pub SummingOf : Row → Family
SummingOf row ws l r = (s : Summing ws l r) × (summing_row ws l r s ≡ row)

abbrev pub ShiftingOf : Row → Family
ShiftingOf row ws l r = (s : Shifting ws l r) × (shifting_row ws l r s ≡ row)

abbrev pub PartingOf : Row → Family
PartingOf row ws l r = (s : Parting ws l r) × (parting_row ws l r s ≡ row)

abbrev pub DecidingOf : Row → Family
DecidingOf row ws l r = (s : Deciding l r) × (deciding_row l r s ≡ row)

abbrev pub ComparingOf : Row → Family
ComparingOf row ws l r = (s : Comparing l r) × (comparing_row l r s ≡ row)

abbrev pub FormOf : Row → Family
FormOf row ws l r = (s : Form ws l r) × (form_row ws l r s ≡ row)

abbrev pub RuleOf : Row → Family
RuleOf row ws l r = (s : Rule ws l r) × (rule_row ws l r s ≡ row)
