-- What a rule does to the need: it had one, and where the rule makes a node the node's is less. Where a standing operand
-- or a constant takes its place, nothing is left of it.
use Rattle.std.specs.Prelude.{ℕ, ◌<◌}
use Rattle.cmeaning.specs.declared.tree.Expr.{Expr}
use Rattle.cmeaning.specs.declared.tree.Expr.TheVariants as E
use Rattle.rules.specs.Arithmetic.{Summing, A1, A2_mul, A2_and, A2_div, A2_sdiv, A3, A4_none, A4_same, A5_add_add, A5_add_add_over, A5_sub_sub, A5_add_sub, A5_add_sub_over, A5_sub_add, A6, A6_over, A7, A8_add, A8_sub}
use Rattle.rules.specs.Shifts.{Shifting, A1_shift, S1, S2}
use Rattle.rules.specs.Parts.{Parting, Z1_low, Z1_low_whole, Z1_high, Z1_high_whole, Z2_within, Z2_whole, Z2_past, Z2_wider, Z3, Z4, Z4_whole, Z5, Z6_zext, Z6_sext}
use Rattle.rules.specs.Booleans.{Deciding, B1_xor, B1_eq, B1_ne, B2_ne, B2_eq}
use Rattle.rules.specs.Comparisons.{Comparing, C1_sub, C1_xor, C2_add, C2_add_over, C2_sub, C3_ne, C3_eq, C4_signed, C4_signed_over, C4, C4_over, C5_signed, C5_signed_over, C5, C5_over, C6, C7_below_zero, C7_from_zero, C7_below_one, C7_to_zero, C8, C8_signed}
use Rattle.rules.specs.Table.{Form, OfFolds, OfArithmetic, OfShifts, OfParts, OfBooleans, OfComparisons, Rule, AsNamed, Turned, TurnedTest, TurnedFlag, F2, F2_test}
use Rattle.rule_measure.specs.Measure.{need}

-- ---- forms whose right side is a node that is made

abbrev pub sum_is_new : (ws : ℕ → ℕ) (l r : Expr) → Summing ws l r → Type 0
sum_is_new ws l r (A1 op x c k z) = ⊥
sum_is_new ws l r (A2_mul x c z) = ⊥
sum_is_new ws l r (A2_and x c z) = ⊥
sum_is_new ws l r (A2_div x c z) = ⊥
sum_is_new ws l r (A2_sdiv x c z) = ⊥
sum_is_new ws l r (A3 op x c k z) = ⊥
sum_is_new ws l r (A4_none op x z k a s e) = ⊥
sum_is_new ws l r (A4_same op x k a) = ⊥
sum_is_new ws l r (A5_add_add x c d e f) = Unit {0}
sum_is_new ws l r (A5_add_add_over x c d e f) = Unit {0}
sum_is_new ws l r (A5_sub_sub x c d e f) = Unit {0}
sum_is_new ws l r (A5_add_sub x c d e f) = Unit {0}
sum_is_new ws l r (A5_add_sub_over x c d e f) = Unit {0}
sum_is_new ws l r (A5_sub_add x c d e f) = Unit {0}
sum_is_new ws l r (A6 op x c d e k f) = Unit {0}
sum_is_new ws l r (A6_over op x c d e k f) = Unit {0}
sum_is_new ws l r (A7 op x) = ⊥
sum_is_new ws l r (A8_add x y) = Unit {0}
sum_is_new ws l r (A8_sub x y) = Unit {0}

abbrev pub shift_is_new : (ws : ℕ → ℕ) (l r : Expr) → Shifting ws l r → Type 0
shift_is_new ws l r (A1_shift op x c z) = ⊥
shift_is_new ws l r (S1 op x c z plain s more e) = ⊥
shift_is_new ws l r (S2 x v c e s more f) = Unit {0}

abbrev pub part_is_new : (ws : ℕ → ℕ) (l r : Expr) → Parting ws l r → Type 0
part_is_new ws l r (Z1_low x y k t v s i j) = Unit {0}
part_is_new ws l r (Z1_low_whole x y v s) = ⊥
part_is_new ws l r (Z1_high x y k t s v i j past less) = Unit {0}
part_is_new ws l r (Z1_high_whole x y k v i j) = ⊥
part_is_new ws l r (Z2_within x k t v c i j less) = Unit {0}
part_is_new ws l r (Z2_whole x v c i) = ⊥
part_is_new ws l r (Z2_past x k t v c z i past f) = ⊥
part_is_new ws l r (Z2_wider x t v c i wider) = Unit {0}
part_is_new ws l r (Z3 x j k v c) = Unit {0}
part_is_new ws l r (Z4 x j k t a b c at is sum i less) = Unit {0}
part_is_new ws l r (Z4_whole x j a b at is i) = ⊥
part_is_new ws l r (Z5 y t c v z i sum) = Unit {0}
part_is_new ws l r (Z6_zext op x v c) = Unit {0}
part_is_new ws l r (Z6_sext x v c) = Unit {0}

abbrev pub boolean_is_new : (l r : Expr) → Deciding l r → Type 0
boolean_is_new l r (B1_xor k m c g z) = Unit {0}
boolean_is_new l r (B1_eq k m c g z) = Unit {0}
boolean_is_new l r (B1_ne k m c g z) = Unit {0}
boolean_is_new l r (B2_ne b c i z) = ⊥
boolean_is_new l r (B2_eq b c i z) = ⊥

abbrev pub comparison_is_new : (l r : Expr) → Comparing l r → Type 0
comparison_is_new l r (C1_sub op x y c k z) = Unit {0}
comparison_is_new l r (C1_xor op x y c k z) = Unit {0}
comparison_is_new l r (C2_add op x c d e k f) = Unit {0}
comparison_is_new l r (C2_add_over op x c d e k f) = Unit {0}
comparison_is_new l r (C2_sub op x c d e k f) = Unit {0}
comparison_is_new l r (C3_ne x y c a b z) = Unit {0}
comparison_is_new l r (C3_eq x y c a b z) = Unit {0}
comparison_is_new l r (C4_signed x y a b) = Unit {0}
comparison_is_new l r (C4_signed_over x y a b) = Unit {0}
comparison_is_new l r (C4 x y a b) = Unit {0}
comparison_is_new l r (C4_over x y a b) = Unit {0}
comparison_is_new l r (C5_signed x y a b) = Unit {0}
comparison_is_new l r (C5_signed_over x y a b) = Unit {0}
comparison_is_new l r (C5 x y a b) = Unit {0}
comparison_is_new l r (C5_over x y a b) = Unit {0}
comparison_is_new l r (C6 op x c z k f) = ⊥
comparison_is_new l r (C7_below_zero x c z k f) = ⊥
comparison_is_new l r (C7_from_zero x c o k f) = ⊥
comparison_is_new l r (C7_below_one x c z k f) = Unit {0}
comparison_is_new l r (C7_to_zero x c k) = Unit {0}
comparison_is_new l r (C8 op x o a f) = ⊥
comparison_is_new l r (C8_signed op x o a f) = ⊥

abbrev pub form_is_new : (ws : ℕ → ℕ) (l r : Expr) → Form ws l r → Type 0
form_is_new ws l r (OfFolds x y f) = ⊥
form_is_new ws l r (OfArithmetic x y f) = sum_is_new ws l r f
form_is_new ws l r (OfShifts x y f) = shift_is_new ws l r f
form_is_new ws l r (OfParts x y f) = part_is_new ws l r f
form_is_new ws l r (OfBooleans x y f) = boolean_is_new l r f
form_is_new ws l r (OfComparisons x y f) = comparison_is_new l r f

abbrev pub is_new : (ws : ℕ → ℕ) (l r : Expr) → Rule ws l r → Type 0
is_new ws l r (AsNamed x y f) = form_is_new ws l r f
is_new ws l r (Turned op x y z k f) = form_is_new ws (E.Arithmetic op x y) r f
is_new ws l r (TurnedTest op x y z k f) = form_is_new ws (E.Compare op x y) r f
is_new ws l r (TurnedFlag op x y z k f) = form_is_new ws (E.Overflow op x y) r f
is_new ws l r (F2 op c x k never) = Unit {0}
is_new ws l r (F2_test op c x k never) = Unit {0}

pub record Lowers (ws ls : ℕ → ℕ) (l r : Expr) (f : Rule ws l r) : Type 0 where
  pub some : 0 < need ws ls l
  pub less : is_new ws l r f → need ws ls r < need ws ls l
