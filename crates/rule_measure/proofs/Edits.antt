-- Every edit lessens the total of what it is made in.
use Rattle.std.proofs.Common.{◌≡◌, ◌⊎◌, ⊎_elim, inl, inr, ℕ, ◌+◌, ◌<◌, ◌≤◌, arith}
use Rattle.cmeaning.specs.declared.tree.ArithmeticOp.{ArithmeticOp}
use Rattle.cmeaning.specs.declared.tree.CompareOp.{CompareOp}
use Rattle.cmeaning.specs.declared.tree.OverflowOp.{OverflowOp}
use Rattle.cmeaning.specs.declared.tree.Expr.{Expr}
use Rattle.cmeaning.specs.declared.tree.Expr.TheVariants as E
use Rattle.rules.specs.Letters.{Negated, Eq, Ne, Lt, Le, SLt, SLe}
use Rattle.rules.specs.Folds.{Folding, F1}
use Rattle.rules.specs.Arithmetic.{Summing, A1, A2_mul, A2_and, A2_div, A2_sdiv, A3, A4_none, A4_same, A5_add_add, A5_add_add_over, A5_sub_sub, A5_add_sub, A5_add_sub_over, A5_sub_add, A6, A6_over, A7, A8_add, A8_sub}
use Rattle.rules.specs.Shifts.{Shifting, A1_shift, S1, S2}
use Rattle.rules.specs.Parts.{Parting, Z1_low, Z1_low_whole, Z1_high, Z1_high_whole, Z2_within, Z2_whole, Z2_past, Z2_wider, Z3, Z4, Z4_whole, Z5, Z6_zext, Z6_sext}
use Rattle.rules.specs.Booleans.{Deciding, B1_xor, B1_eq, B1_ne, B2_ne, B2_eq}
use Rattle.rules.specs.Comparisons.{Comparing, C1_sub, C1_xor, C2_add, C2_add_over, C2_sub, C3_ne, C3_eq, C4_signed, C4_signed_over, C4, C4_over, C5_signed, C5_signed_over, C5, C5_over, C6, C7_below_zero, C7_from_zero, C7_below_one, C7_to_zero, C8, C8_signed}
use Rattle.rules.specs.Table.{Form, OfFolds, OfArithmetic, OfShifts, OfParts, OfBooleans, OfComparisons, Rule, AsNamed, Turned, TurnedTest, TurnedFlag, F2, F2_test}
use Rattle.rule_measure.specs.Measure.{height, need}
use Rattle.rule_measure.specs.Lowers.{sum_is_new, shift_is_new, part_is_new, boolean_is_new, comparison_is_new, form_is_new, is_new}
use Rattle.rule_measure.specs.Total.{total}
use Rattle.rule_measure.proofs.Needs.{needs}
use Rattle.rule_measure.proofs.Totals.{totals, need_most}
use Rattle.rule_measure.proofs.Falls.{lowers}

-- ---- what is made stands no higher

negated_height : (ls : ℕ → ℕ) (k n : Expr) → Negated k n → height ls n ≡ height ls k
negated_height ls k n (Eq x y) = simp needs (omega arith)
negated_height ls k n (Ne x y) = simp needs (omega arith)
negated_height ls k n (Lt x y) = simp needs (omega arith)
negated_height ls k n (Le x y) = simp needs (omega arith)
negated_height ls k n (SLt x y) = simp needs (omega arith)
negated_height ls k n (SLe x y) = simp needs (omega arith)

module _ (ws ls : ℕ → ℕ) where
  fold_height : (l r : Expr) → Folding ws l r → height ls r ≤ height ls l
  fold_height l r (F1 l' e c v) = simp needs (omega arith)

  sum_height : (l r : Expr) → Summing ws l r → height ls r ≤ height ls l
  sum_height l r (A1 op x c k z) = simp needs (omega arith)
  sum_height l r (A2_mul x c z) = simp needs (omega arith)
  sum_height l r (A2_and x c z) = simp needs (omega arith)
  sum_height l r (A2_div x c z) = simp needs (omega arith)
  sum_height l r (A2_sdiv x c z) = simp needs (omega arith)
  sum_height l r (A3 op x c k z) = simp needs (omega arith)
  sum_height l r (A4_none op x z k a s e) = simp needs (omega arith)
  sum_height l r (A4_same op x k a) = simp needs (omega arith)
  sum_height l r (A5_add_add x c d e f) = simp needs (omega arith)
  sum_height l r (A5_add_add_over x c d e f) = simp needs (omega arith)
  sum_height l r (A5_sub_sub x c d e f) = simp needs (omega arith)
  sum_height l r (A5_add_sub x c d e f) = simp needs (omega arith)
  sum_height l r (A5_add_sub_over x c d e f) = simp needs (omega arith)
  sum_height l r (A5_sub_add x c d e f) = simp needs (omega arith)
  sum_height l r (A6 op x c d e k f) = simp needs (omega arith)
  sum_height l r (A6_over op x c d e k f) = simp needs (omega arith)
  sum_height l r (A7 op x) = simp needs (omega arith)
  sum_height l r (A8_add x y) = simp needs (omega arith)
  sum_height l r (A8_sub x y) = simp needs (omega arith)

  shift_height : (l r : Expr) → Shifting ws l r → height ls r ≤ height ls l
  shift_height l r (A1_shift op x c z) = simp needs (omega arith)
  shift_height l r (S1 op x c z plain s more e) = simp needs (omega arith)
  shift_height l r (S2 x v c e s more f) = simp needs (omega arith)

  part_height : (l r : Expr) → Parting ws l r → height ls r ≤ height ls l
  part_height l r (Z1_low x y k t v s i j) = simp needs (omega arith)
  part_height l r (Z1_low_whole x y v s) = simp needs (omega arith)
  part_height l r (Z1_high x y k t s v i j past less) = simp needs (omega arith)
  part_height l r (Z1_high_whole x y k v i j) = simp needs (omega arith)
  part_height l r (Z2_within x k t v c i j less) = simp needs (omega arith)
  part_height l r (Z2_whole x v c i) = simp needs (omega arith)
  part_height l r (Z2_past x k t v c z i past f) = simp needs (omega arith)
  part_height l r (Z2_wider x t v c i wider) = simp needs (omega arith)
  part_height l r (Z3 x j k v c) = simp needs (omega arith)
  part_height l r (Z4 x j k t a b c at is sum i less) = simp needs (omega arith)
  part_height l r (Z4_whole x j a b at is i) = simp needs (omega arith)
  part_height l r (Z5 y t c v z i sum) = simp needs (omega arith)
  part_height l r (Z6_zext op x v c) = simp needs (omega arith)
  part_height l r (Z6_sext x v c) = simp needs (omega arith)

  boolean_height : (l r : Expr) → Deciding l r → height ls r ≤ height ls l
  boolean_height l r (B1_xor k m c g z) =
      let e : height ls m ≡ height ls k = negated_height ls k m g in simp needs (omega arith)
  boolean_height l r (B1_eq k m c g z) =
      let e : height ls m ≡ height ls k = negated_height ls k m g in simp needs (omega arith)
  boolean_height l r (B1_ne k m c g z) =
      let e : height ls m ≡ height ls k = negated_height ls k m g in simp needs (omega arith)
  boolean_height l r (B2_ne b c i z) = simp needs (omega arith)
  boolean_height l r (B2_eq b c i z) = simp needs (omega arith)

  comparison_height : (l r : Expr) → Comparing l r → height ls r ≤ height ls l
  comparison_height l r (C1_sub op x y c k z) = simp needs (omega arith)
  comparison_height l r (C1_xor op x y c k z) = simp needs (omega arith)
  comparison_height l r (C2_add op x c d e k f) = simp needs (omega arith)
  comparison_height l r (C2_add_over op x c d e k f) = simp needs (omega arith)
  comparison_height l r (C2_sub op x c d e k f) = simp needs (omega arith)
  comparison_height l r (C3_ne x y c a b z) = simp needs (omega arith)
  comparison_height l r (C3_eq x y c a b z) = simp needs (omega arith)
  comparison_height l r (C4_signed x y a b) = simp needs (omega arith)
  comparison_height l r (C4_signed_over x y a b) = simp needs (omega arith)
  comparison_height l r (C4 x y a b) = simp needs (omega arith)
  comparison_height l r (C4_over x y a b) = simp needs (omega arith)
  comparison_height l r (C5_signed x y a b) = simp needs (omega arith)
  comparison_height l r (C5_signed_over x y a b) = simp needs (omega arith)
  comparison_height l r (C5 x y a b) = simp needs (omega arith)
  comparison_height l r (C5_over x y a b) = simp needs (omega arith)
  comparison_height l r (C6 op x c z k f) = simp needs (omega arith)
  comparison_height l r (C7_below_zero x c z k f) = simp needs (omega arith)
  comparison_height l r (C7_from_zero x c o k f) = simp needs (omega arith)
  comparison_height l r (C7_below_one x c z k f) = simp needs (omega arith)
  comparison_height l r (C7_to_zero x c k) = simp needs (omega arith)
  comparison_height l r (C8 op x o a f) = simp needs (omega arith)
  comparison_height l r (C8_signed op x o a f) = simp needs (omega arith)

  form_height : (l r : Expr) → Form ws l r → height ls r ≤ height ls l
  form_height l r (OfFolds x y f) = fold_height l r f
  form_height l r (OfArithmetic x y f) = sum_height l r f
  form_height l r (OfShifts x y f) = shift_height l r f
  form_height l r (OfParts x y f) = part_height l r f
  form_height l r (OfBooleans x y f) = boolean_height l r f
  form_height l r (OfComparisons x y f) = comparison_height l r f

-- ---- what is made has no operand but the left side's, each as often at most

-- The nodes below a node that is made need no more than those below the left side; what takes the left side's place
-- otherwise, no more than those below it.
abbrev Spends : (ws ls : ℕ → ℕ) → Expr → Expr → Type 0 → Type 0
Spends ws ls l r new = (new × (total ws ls r + need ws ls l ≤ total ws ls l + need ws ls r))
    ⊎ (total ws ls r + need ws ls l ≤ total ws ls l)

negated_spends : (ws ls : ℕ → ℕ) (k n : Expr) → Negated k n
    → total ws ls n + need ws ls k ≡ total ws ls k + need ws ls n
negated_spends ws ls k n (Eq x y) = simp totals (omega arith)
negated_spends ws ls k n (Ne x y) = simp totals (omega arith)
negated_spends ws ls k n (Lt x y) = simp totals (omega arith)
negated_spends ws ls k n (Le x y) = simp totals (omega arith)
negated_spends ws ls k n (SLt x y) = simp totals (omega arith)
negated_spends ws ls k n (SLe x y) = simp totals (omega arith)

module _ (ws ls : ℕ → ℕ) where
  fold_spends : (l r : Expr) → Folding ws l r → total ws ls r + need ws ls l ≤ total ws ls l
  fold_spends l r (F1 l' e c v) =
      let most : need ws ls l ≤ total ws ls l = need_most ws ls l in simp totals (omega arith)

  sum_spends : (l r : Expr) (f : Summing ws l r) → Spends ws ls l r (sum_is_new ws l r f)
  sum_spends l r (A1 op x c k z) = inr (simp totals (omega arith))
  sum_spends l r (A2_mul x c z) = inr (simp totals (omega arith))
  sum_spends l r (A2_and x c z) = inr (simp totals (omega arith))
  sum_spends l r (A2_div x c z) = inr (simp totals (omega arith))
  sum_spends l r (A2_sdiv x c z) = inr (simp totals (omega arith))
  sum_spends l r (A3 op x c k z) = inr (simp totals (omega arith))
  sum_spends l r (A4_none op x z k a s e) = inr (simp totals (omega arith))
  sum_spends l r (A4_same op x k a) = inr (simp totals (omega arith))
  sum_spends l r (A5_add_add x c d e f) = inl (tt, simp totals (omega arith))
  sum_spends l r (A5_add_add_over x c d e f) = inl (tt, simp totals (omega arith))
  sum_spends l r (A5_sub_sub x c d e f) = inl (tt, simp totals (omega arith))
  sum_spends l r (A5_add_sub x c d e f) = inl (tt, simp totals (omega arith))
  sum_spends l r (A5_add_sub_over x c d e f) = inl (tt, simp totals (omega arith))
  sum_spends l r (A5_sub_add x c d e f) = inl (tt, simp totals (omega arith))
  sum_spends l r (A6 op x c d e k f) = inl (tt, simp totals (omega arith))
  sum_spends l r (A6_over op x c d e k f) = inl (tt, simp totals (omega arith))
  sum_spends l r (A7 op x) = inr (simp totals (omega arith))
  sum_spends l r (A8_add x y) = inl (tt, simp totals (omega arith))
  sum_spends l r (A8_sub x y) = inl (tt, simp totals (omega arith))

  shift_spends : (l r : Expr) (f : Shifting ws l r) → Spends ws ls l r (shift_is_new ws l r f)
  shift_spends l r (A1_shift op x c z) = inr (simp totals (omega arith))
  shift_spends l r (S1 op x c z plain s more e) = inr (simp totals (omega arith))
  shift_spends l r (S2 x v c e s more f) = inl (tt, simp totals (omega arith))

  part_spends : (l r : Expr) (f : Parting ws l r) → Spends ws ls l r (part_is_new ws l r f)
  part_spends l r (Z1_low x y k t v s i j) = inl (tt, simp totals (omega arith))
  part_spends l r (Z1_low_whole x y v s) = inr (simp totals (omega arith))
  part_spends l r (Z1_high x y k t s v i j past less) = inl (tt, simp totals (omega arith))
  part_spends l r (Z1_high_whole x y k v i j) = inr (simp totals (omega arith))
  part_spends l r (Z2_within x k t v c i j less) = inl (tt, simp totals (omega arith))
  part_spends l r (Z2_whole x v c i) = inr (simp totals (omega arith))
  part_spends l r (Z2_past x k t v c z i past f) = inr (simp totals (omega arith))
  part_spends l r (Z2_wider x t v c i wider) = inl (tt, simp totals (omega arith))
  part_spends l r (Z3 x j k v c) = inl (tt, simp totals (omega arith))
  part_spends l r (Z4 x j k t a b c at is sum i less) = inl (tt, simp totals (omega arith))
  part_spends l r (Z4_whole x j a b at is i) = inr (simp totals (omega arith))
  part_spends l r (Z5 y t c v z i sum) = inl (tt, simp totals (omega arith))
  part_spends l r (Z6_zext op x v c) = inl (tt, simp totals (omega arith))
  part_spends l r (Z6_sext x v c) = inl (tt, simp totals (omega arith))

  boolean_spends : (l r : Expr) (f : Deciding l r) → Spends ws ls l r (boolean_is_new l r f)
  boolean_spends l r (B1_xor k m c g z) =
      let e : total ws ls m + need ws ls k ≡ total ws ls k + need ws ls m = negated_spends ws ls k m g in
      inl (tt, simp totals (omega arith))
  boolean_spends l r (B1_eq k m c g z) =
      let e : total ws ls m + need ws ls k ≡ total ws ls k + need ws ls m = negated_spends ws ls k m g in
      inl (tt, simp totals (omega arith))
  boolean_spends l r (B1_ne k m c g z) =
      let e : total ws ls m + need ws ls k ≡ total ws ls k + need ws ls m = negated_spends ws ls k m g in
      inl (tt, simp totals (omega arith))
  boolean_spends l r (B2_ne b c i z) = inr (simp totals (omega arith))
  boolean_spends l r (B2_eq b c i z) = inr (simp totals (omega arith))

  comparison_spends : (l r : Expr) (f : Comparing l r) → Spends ws ls l r (comparison_is_new l r f)
  comparison_spends l r (C1_sub op x y c k z) = inl (tt, simp totals (omega arith))
  comparison_spends l r (C1_xor op x y c k z) = inl (tt, simp totals (omega arith))
  comparison_spends l r (C2_add op x c d e k f) = inl (tt, simp totals (omega arith))
  comparison_spends l r (C2_add_over op x c d e k f) = inl (tt, simp totals (omega arith))
  comparison_spends l r (C2_sub op x c d e k f) = inl (tt, simp totals (omega arith))
  comparison_spends l r (C3_ne x y c a b z) = inl (tt, simp totals (omega arith))
  comparison_spends l r (C3_eq x y c a b z) = inl (tt, simp totals (omega arith))
  comparison_spends l r (C4_signed x y a b) = inl (tt, simp totals (omega arith))
  comparison_spends l r (C4_signed_over x y a b) = inl (tt, simp totals (omega arith))
  comparison_spends l r (C4 x y a b) = inl (tt, simp totals (omega arith))
  comparison_spends l r (C4_over x y a b) = inl (tt, simp totals (omega arith))
  comparison_spends l r (C5_signed x y a b) = inl (tt, simp totals (omega arith))
  comparison_spends l r (C5_signed_over x y a b) = inl (tt, simp totals (omega arith))
  comparison_spends l r (C5 x y a b) = inl (tt, simp totals (omega arith))
  comparison_spends l r (C5_over x y a b) = inl (tt, simp totals (omega arith))
  comparison_spends l r (C6 op x c z k f) = inr (simp totals (omega arith))
  comparison_spends l r (C7_below_zero x c z k f) = inr (simp totals (omega arith))
  comparison_spends l r (C7_from_zero x c o k f) = inr (simp totals (omega arith))
  comparison_spends l r (C7_below_one x c z k f) = inl (tt, simp totals (omega arith))
  comparison_spends l r (C7_to_zero x c k) = inl (tt, simp totals (omega arith))
  comparison_spends l r (C8 op x o a f) = inr (simp totals (omega arith))
  comparison_spends l r (C8_signed op x o a f) = inr (simp totals (omega arith))

  form_spends : (l r : Expr) (f : Form ws l r) → Spends ws ls l r (form_is_new ws l r f)
  form_spends l r (OfFolds x y f) = inr (fold_spends l r f)
  form_spends l r (OfArithmetic x y f) = sum_spends l r f
  form_spends l r (OfShifts x y f) = shift_spends l r f
  form_spends l r (OfParts x y f) = part_spends l r f
  form_spends l r (OfBooleans x y f) = boolean_spends l r f
  form_spends l r (OfComparisons x y f) = comparison_spends l r f

-- at an expression whose operands have the same total
spent : (ws ls : ℕ → ℕ) (l k r : Expr) (new : Type 0)
    → total ws ls l + need ws ls k ≡ total ws ls k + need ws ls l
    → Spends ws ls k r new
    → Spends ws ls l r new
spent ws ls l k r new e s = ⊎_elim
    (λ (h : new × (total ws ls r + need ws ls k ≤ total ws ls k + need ws ls r)).
    (let f : total ws ls r + need ws ls k ≤ total ws ls k + need ws ls r = h.1 in
    let t : Spends ws ls l r new = inl (h.0, omega arith) in t))
    (λ (h : total ws ls r + need ws ls k ≤ total ws ls k).
    (let t : Spends ws ls l r new = inr (omega arith) in t)) s

module _ (ws ls : ℕ → ℕ) where
  turned : (op : ArithmeticOp) (x y : Expr)
      → total ws ls (E.Arithmetic op y x) + need ws ls (E.Arithmetic op x y)
      ≡ total ws ls (E.Arithmetic op x y) + need ws ls (E.Arithmetic op y x)
  turned op x y = simp totals (omega arith)

  turned_test : (op : CompareOp) (x y : Expr)
      → total ws ls (E.Compare op y x) + need ws ls (E.Compare op x y)
      ≡ total ws ls (E.Compare op x y) + need ws ls (E.Compare op y x)
  turned_test op x y = simp totals (omega arith)

  turned_flag : (op : OverflowOp) (x y : Expr)
      → total ws ls (E.Overflow op y x) + need ws ls (E.Overflow op x y)
      ≡ total ws ls (E.Overflow op x y) + need ws ls (E.Overflow op y x)
  turned_flag op x y = simp totals (omega arith)

  rule_spends : (l r : Expr) (f : Rule ws l r) → Spends ws ls l r (is_new ws l r f)
  rule_spends l r (AsNamed x y f) = form_spends ws ls l r f
  rule_spends l r (Turned op x y z k f) =
      spent ws ls l (E.Arithmetic op x y) r (form_is_new ws (E.Arithmetic op x y) r f) (turned op x y)
      (form_spends ws ls (E.Arithmetic op x y) r f)
  rule_spends l r (TurnedTest op x y z k f) =
      spent ws ls l (E.Compare op x y) r (form_is_new ws (E.Compare op x y) r f) (turned_test op x y)
      (form_spends ws ls (E.Compare op x y) r f)
  rule_spends l r (TurnedFlag op x y z k f) =
      spent ws ls l (E.Overflow op x y) r (form_is_new ws (E.Overflow op x y) r f) (turned_flag op x y)
      (form_spends ws ls (E.Overflow op x y) r f)
  rule_spends l r (F2 op c x k never) = inl (tt, simp totals (omega arith))
  rule_spends l r (F2_test op c x k never) = inl (tt, simp totals (omega arith))

  -- A rule lessens the total of its left side.
  pub rule_less : (l r : Expr) → Rule ws l r → total ws ls r < total ws ls l
  rule_less l r f =
      let w = lowers ws ls l r f in
      let some : 0 < need ws ls l = w.some in
      ⊎_elim
      (λ (h : is_new ws l r f × (total ws ls r + need ws ls l ≤ total ws ls l + need ws ls r)).
      (let spends : total ws ls r + need ws ls l ≤ total ws ls l + need ws ls r = h.1 in
      let less : need ws ls r < need ws ls l = w.less h.0 in
      let t : total ws ls r < total ws ls l = omega arith in t))
      (λ (h : total ws ls r + need ws ls l ≤ total ws ls l). (let t : total ws ls r < total ws ls l = omega arith in t))
      (rule_spends l r f)

  -- A rule makes nothing higher than its left side.
  pub rule_height : (l r : Expr) → Rule ws l r → height ls r ≤ height ls l
  rule_height l r (AsNamed x y f) = form_height ws ls l r f
  rule_height l r (Turned op x y z k f) =
      let h : height ls r ≤ height ls (E.Arithmetic op x y) = form_height ws ls (E.Arithmetic op x y) r f in
      let e : height ls (E.Arithmetic op x y) ≡ height ls (E.Arithmetic op y x) = simp needs (omega arith) in
      omega arith
  rule_height l r (TurnedTest op x y z k f) =
      let h : height ls r ≤ height ls (E.Compare op x y) = form_height ws ls (E.Compare op x y) r f in
      let e : height ls (E.Compare op x y) ≡ height ls (E.Compare op y x) = simp needs (omega arith) in
      omega arith
  rule_height l r (TurnedFlag op x y z k f) =
      let h : height ls r ≤ height ls (E.Overflow op x y) = form_height ws ls (E.Overflow op x y) r f in
      let e : height ls (E.Overflow op x y) ≡ height ls (E.Overflow op y x) = simp needs (omega arith) in
      omega arith
  rule_height l r (F2 op c x k never) = simp needs (omega arith)
  rule_height l r (F2_test op c x k never) = simp needs (omega arith)
