-- Each rule lowers the need of what it rewrites.
use Rattle.std.proofs.Common.{◌≡◌, ℕ, ◌+◌, ◌-◌, ◌*◌, ◌<◌, ◌≤◌, max, nat_lt, true, false, if◌then◌else◌, Option, Some, None, refl, sym, ap, ◌∙◌, subst, arith}
use Rattle.std.proofs.lemmas.Bool.Decides.{nat_tests}
use Rattle.bits_core.specs.declared.word.Word.{Word}
use Rattle.cmeaning.specs.declared.tree.ArithmeticOp.{ArithmeticOp}
use Rattle.cmeaning.specs.declared.tree.ArithmeticOp.TheVariants as A
use Rattle.cmeaning.specs.declared.tree.ShiftOp.{ShiftOp}
use Rattle.cmeaning.specs.declared.tree.ShiftOp.TheVariants as H
use Rattle.cmeaning.specs.declared.tree.CompareOp.{CompareOp}
use Rattle.cmeaning.specs.declared.tree.CompareOp.TheVariants as C
use Rattle.cmeaning.specs.declared.tree.OverflowOp.{OverflowOp}
use Rattle.cmeaning.specs.declared.tree.Expr.{Expr, ind-Expr, roll-Expr}
use Rattle.cmeaning.specs.declared.tree.Expr.TheOpen.{Expr-F}
use Rattle.cmeaning.specs.declared.tree.Expr.TheVariants as E
use Rattle.rules.specs.Size.{size_of}
use Rattle.rules.specs.Letters.{IsWide, IsWord, IsBitwise, IsEquality, Commutes, CommutesFlag, Negated, Eq, Ne, Lt, Le, SLt, SLe}
use Rattle.rules.specs.Folds.{IsClosed, Unary, Arithmetic, Division, SignedDivision, Shift, Compare, SignedCompare, Extend, Part, Concat, Overflow, Count, Folding, F1}
use Rattle.rules.specs.Arithmetic.{Summing, A1, A2_mul, A2_and, A2_div, A2_sdiv, A3, A4_none, A4_same, A5_add_add, A5_add_add_over, A5_sub_sub, A5_add_sub, A5_add_sub_over, A5_sub_add, A6, A6_over, A7, A8_add, A8_sub}
use Rattle.rules.specs.Shifts.{Shifting, A1_shift, S1, S2}
use Rattle.rules.specs.Parts.{Parting, Z1_low, Z1_low_whole, Z1_high, Z1_high_whole, Z2_within, Z2_whole, Z2_past, Z2_wider, Z3, Z4, Z4_whole, Z5, Z6_zext, Z6_sext}
use Rattle.rules.specs.Booleans.{Deciding, B1_xor, B1_eq, B1_ne, B2_ne, B2_eq}
use Rattle.rules.specs.Comparisons.{Comparing, C1_sub, C1_xor, C2_add, C2_add_over, C2_sub, C3_ne, C3_eq, C4_signed, C4_signed_over, C4, C4_over, C5_signed, C5_signed_over, C5, C5_over, C6, C7_below_zero, C7_from_zero, C7_below_one, C7_to_zero, C8, C8_signed}
use Rattle.rules.specs.Table.{Form, OfFolds, OfArithmetic, OfShifts, OfParts, OfBooleans, OfComparisons, Rule, AsNamed, Turned, TurnedTest, TurnedFlag, F2, F2_test}
use Rattle.rules.proofs.Words.{good}
use Rattle.rules.proofs.Total.{everywhere, everywhere_reads, zeros, zero_words}
use Rattle.rule_measure.specs.Measure.{height, constant_of, open_right, past_bits, one_need, two_need, sum_need, shift_need, compare_need, need_in, need_by, need}
use Rattle.rule_measure.specs.Lowers.{sum_is_new, shift_is_new, part_is_new, boolean_is_new, comparison_is_new, form_is_new, is_new, Lowers}
use Rattle.rule_measure.proofs.Needs.{needs, need_roll, no_constant, open_most, sum_some, shift_some, compare_some, sum_more, compare_more, need_arithmetic, need_compare, need_overflow, need_shift, height_const, constant_const}

-- the need as if each right operand were a constant: it is the same in either order of operands that commute
abbrev bare : (ws ls : ℕ → ℕ) → Expr → ℕ
bare ws ls e = need_by (λ o. 0) ws ls e

-- what a form does
abbrev Falls : (ws ls : ℕ → ℕ) → Expr → Expr → Type 0 → Type 0
Falls ws ls l r new = (0 < bare ws ls l) × (new → need ws ls r < bare ws ls l)

width_some : (ws : ℕ → ℕ) (x : Expr) (w : ℕ) → IsWide ws x w → 0 < w
width_some ws x w s = (good everywhere everywhere_reads ws zeros (zero_words ws) x w s).some

-- ---- by cases of the operation

bitwise_falls : (op : ArithmeticOp) → IsBitwise op → (a b c : ℕ) → max a b < c
    → sum_need op a b 0 < sum_need op c 0 0
bitwise_falls A.Add k a b c h = absurd k
bitwise_falls A.Sub k a b c h = absurd k
bitwise_falls A.Mul k a b c h = absurd k
bitwise_falls A.And k a b c h = omega arith
bitwise_falls A.Or k a b c h = omega arith
bitwise_falls A.Xor k a b c h = omega arith

equality_falls : (op : CompareOp) → IsEquality op → (a b c m : ℕ) → max a b < c → m ≤ 1
    → compare_need op a b m < compare_need op c 0 0
equality_falls C.Eq k a b c m h le = omega arith
equality_falls C.Ne k a b c m h le = omega arith
equality_falls C.Lt k a b c m h le = absurd k
equality_falls C.Le k a b c m h le = absurd k

sum_turned : (op : ArithmeticOp) (a b : ℕ) → Commutes op → sum_need op a b 0 ≡ sum_need op b a 0
sum_turned A.Add a b k = omega arith
sum_turned A.Sub a b k = absurd k
sum_turned A.Mul a b k = omega arith
sum_turned A.And a b k = omega arith
sum_turned A.Or a b k = omega arith
sum_turned A.Xor a b k = omega arith

test_turned : (op : CompareOp) (a b : ℕ) → IsEquality op → compare_need op a b 0 ≡ compare_need op b a 0
test_turned C.Eq a b k = omega arith
test_turned C.Ne a b k = omega arith
test_turned C.Lt a b k = absurd k
test_turned C.Le a b k = absurd k

sum_over : (op : ArithmeticOp) (a : ℕ) → Commutes op → sum_need op a 0 0 < sum_need op 0 a 1
sum_over A.Add a k = omega arith
sum_over A.Sub a k = absurd k
sum_over A.Mul a k = omega arith
sum_over A.And a k = omega arith
sum_over A.Or a k = omega arith
sum_over A.Xor a k = omega arith

test_over : (op : CompareOp) (a : ℕ) → IsEquality op → compare_need op a 0 0 < compare_need op 0 a 1
test_over C.Eq a k = omega arith
test_over C.Ne a k = omega arith
test_over C.Lt a k = absurd k
test_over C.Le a k = absurd k

below_bits : (w : ℕ) (e : Word) → 0 < w → e.value ≡ 8 * w - 1 → past_bits (Some w) (Some e) ≡ 0
below_bits w e some is =
    let t : nat_lt e.value (8 * w) ≡ true = grind (arith, nat_tests) in
    ap (λ b. if b then 0 else 1) t

above_bits : (w : ℕ) (c : Word) → 8 * w ≤ c.value → past_bits (Some w) (Some c) ≡ 1
above_bits w c le =
    let t : nat_lt c.value (8 * w) ≡ false = grind (arith, nat_tests) in
    ap (λ b. if b then 0 else 1) t

module _ (ws ls : ℕ → ℕ) where
  abbrev h : Expr → ℕ
  h e = height ls e

  arithmetic_some : (op : ArithmeticOp) (x y : Expr) → 0 < bare ws ls (E.Arithmetic op x y)
  arithmetic_some op x y = subst (λ n. 0 < n) (sym (need_arithmetic (λ o. 0) ws ls op x y)) (sum_some op (h x) (h y) 0)

  compare_has_some : (op : CompareOp) (x y : Expr) → 0 < bare ws ls (E.Compare op x y)
  compare_has_some op x y =
      subst (λ n. 0 < n) (sym (need_compare (λ o. 0) ws ls op x y)) (compare_some op (h x) (h y) 0)

  shift_has_some : (op : ShiftOp) (x y : Expr) → 0 < bare ws ls (E.Shift op x y)
  shift_has_some op x y = subst (λ n. 0 < n) (sym (need_shift (λ o. 0) ws ls op x y))
      (shift_some op (h x) (h y) (past_bits (size_of ws x) (constant_of y)))

  bitwise : (op : ArithmeticOp) (x : Expr) (e d : Word) (b : Expr) → IsBitwise op → h x < h b
      → need ws ls (E.Arithmetic op x (E.Const e)) < bare ws ls (E.Arithmetic op b (E.Const d))
  bitwise op x e d b k less =
      let m : max (h x) 0 < h b = omega arith in
      simp needs (bitwise_falls op k (h x) 0 (h b) m)

  equality : (op : CompareOp) (x y : Expr) (d : Word) (b : Expr) → IsEquality op → max (h x) (h y) < h b
      → need ws ls (E.Compare op x y) < bare ws ls (E.Compare op b (E.Const d))
  equality op x y d b k less =
      simp needs (equality_falls op k (h x) (h y) (h b) (open_right (constant_of y)) less (open_most (constant_of y)))

  equality_const : (op : CompareOp) (x : Expr) (e d : Word) (b : Expr) → IsEquality op → h x < h b
      → need ws ls (E.Compare op x (E.Const e)) < bare ws ls (E.Compare op b (E.Const d))
  equality_const op x e d b k less =
      let m : max (h x) 0 < h b = omega arith in
      let le : 0 ≤ 1 = omega arith in
      simp needs (equality_falls op k (h x) 0 (h b) 0 m le)

  -- a comparison negated needs less than a test of it
  negated : (k n : Expr) → Negated k n → need ws ls n < two_need (h k) 0
  negated k n (Eq x y) = let m : open_right (constant_of y) ≤ 1 = open_most (constant_of y) in simp needs (omega arith)
  negated k n (Ne x y) = let m : open_right (constant_of y) ≤ 1 = open_most (constant_of y) in simp needs (omega arith)
  negated k n (Lt x y) = simp needs (omega arith)
  negated k n (Le x y) = simp needs (omega arith)
  negated k n (SLt x y) = simp needs (omega arith)
  negated k n (SLe x y) = simp needs (omega arith)

closed_some : (ws ls : ℕ → ℕ) (l : Expr) → IsClosed l → 0 < bare ws ls l
closed_some ws ls l (Unary op c) = simp needs (omega arith)
closed_some ws ls l (Arithmetic op c d) = arithmetic_some ws ls op (E.Const c) (E.Const d)
closed_some ws ls l (Division op c d) = simp needs (omega arith)
closed_some ws ls l (SignedDivision op c d) = simp needs (omega arith)
closed_some ws ls l (Shift op c d) = shift_has_some ws ls op (E.Const c) (E.Const d)
closed_some ws ls l (Compare op c d) = compare_has_some ws ls op (E.Const c) (E.Const d)
closed_some ws ls l (SignedCompare op c d) = simp needs (omega arith)
closed_some ws ls l (Extend op w c) = simp needs (omega arith)
closed_some ws ls l (Part k w c) = simp needs (omega arith)
closed_some ws ls l (Concat c d) = simp needs (omega arith)
closed_some ws ls l (Overflow op c d) = simp needs (omega arith)
closed_some ws ls l (Count op c) = simp needs (omega arith)

fold_falls : (ws ls : ℕ → ℕ) (l r : Expr) → Folding ws l r → 0 < bare ws ls l
fold_falls ws ls l r (F1 l' e c v) = closed_some ws ls l c

sum_falls : (ws ls : ℕ → ℕ) (l r : Expr) (f : Summing ws l r) → Falls ws ls l r (sum_is_new ws l r f)
sum_falls ws ls l r (A1 op x c k z) = (arithmetic_some ws ls op x (E.Const c), λ n. absurd n)
sum_falls ws ls l r (A2_mul x c z) = (simp needs (omega arith), λ n. absurd n)
sum_falls ws ls l r (A2_and x c z) = (simp needs (omega arith), λ n. absurd n)
sum_falls ws ls l r (A2_div x c z) = (simp needs (omega arith), λ n. absurd n)
sum_falls ws ls l r (A2_sdiv x c z) = (simp needs (omega arith), λ n. absurd n)
sum_falls ws ls l r (A3 op x c k z) = (arithmetic_some ws ls op x (E.Const c), λ n. absurd n)
sum_falls ws ls l r (A4_none op x z k a s e) = (arithmetic_some ws ls op x x, λ n. absurd n)
sum_falls ws ls l r (A4_same op x k a) = (arithmetic_some ws ls op x x, λ n. absurd n)
sum_falls ws ls l r (A5_add_add x c d e f) = (simp needs (omega arith), λ n. simp needs (omega arith))
sum_falls ws ls l r (A5_add_add_over x c d e f) = (simp needs (omega arith), λ n. simp needs (omega arith))
sum_falls ws ls l r (A5_sub_sub x c d e f) = (simp needs (omega arith), λ n. simp needs (omega arith))
sum_falls ws ls l r (A5_add_sub x c d e f) = (simp needs (omega arith), λ n. simp needs (omega arith))
sum_falls ws ls l r (A5_add_sub_over x c d e f) = (simp needs (omega arith), λ n. simp needs (omega arith))
sum_falls ws ls l r (A5_sub_add x c d e f) = (simp needs (omega arith), λ n. simp needs (omega arith))
sum_falls ws ls l r (A6 op x c d e k f) = (
  arithmetic_some ws ls op (E.Arithmetic op x (E.Const c)) (E.Const d),
  λ n. (let less : height ls x < height ls (E.Arithmetic op x (E.Const c)) = simp needs (omega arith) in
      bitwise ws ls op x e d (E.Arithmetic op x (E.Const c)) k less),
)
sum_falls ws ls l r (A6_over op x c d e k f) = (
  arithmetic_some ws ls op (E.Arithmetic op (E.Const c) x) (E.Const d),
  λ n. (let less : height ls x < height ls (E.Arithmetic op (E.Const c) x) = simp needs (omega arith) in
      bitwise ws ls op x e d (E.Arithmetic op (E.Const c) x) k less),
)
sum_falls ws ls l r (A7 op x) = (simp needs (omega arith), λ n. absurd n)
sum_falls ws ls l r (A8_add x y) = (simp needs (omega arith), λ n. simp needs (omega arith))
sum_falls ws ls l r (A8_sub x y) = (
  simp needs (omega arith),
  λ n. (let m : open_right (constant_of y) ≤ 1 = open_most (constant_of y) in simp needs (omega arith)),
)

shift_falls : (ws ls : ℕ → ℕ) (l r : Expr) (f : Shifting ws l r) → Falls ws ls l r (shift_is_new ws l r f)
shift_falls ws ls l r (A1_shift op x c z) = (shift_has_some ws ls op x (E.Const c), λ n. absurd n)
shift_falls ws ls l r (S1 op x c z plain s more e) = (shift_has_some ws ls op x (E.Const c), λ n. absurd n)
shift_falls ws ls l r (S2 x v c e s more f) = (
  shift_has_some ws ls H.Sar x (E.Const c),
  λ n. (
      let some : 0 < v = width_some ws x v s in
      let a : past_bits (size_of ws x) (Some c) ≡ 1 = ap (λ o. past_bits o (Some c)) s ∙ above_bits v c more in
      let b : past_bits (size_of ws x) (Some e) ≡ 0 = ap (λ o. past_bits o (Some e)) s ∙ below_bits v e some f.value in
      simp needs (omega arith)),
)

part_falls : (ws ls : ℕ → ℕ) (l r : Expr) (f : Parting ws l r) → Falls ws ls l r (part_is_new ws l r f)
part_falls ws ls l r (Z1_low x y k t v s i j) = (simp needs (omega arith), λ n. simp needs (omega arith))
part_falls ws ls l r (Z1_low_whole x y v s) = (simp needs (omega arith), λ n. absurd n)
part_falls ws ls l r (Z1_high x y k t s v i j past less) = (simp needs (omega arith), λ n. simp needs (omega arith))
part_falls ws ls l r (Z1_high_whole x y k v i j) = (simp needs (omega arith), λ n. absurd n)
part_falls ws ls l r (Z2_within x k t v c i j less) = (simp needs (omega arith), λ n. simp needs (omega arith))
part_falls ws ls l r (Z2_whole x v c i) = (simp needs (omega arith), λ n. absurd n)
part_falls ws ls l r (Z2_past x k t v c z i past f) = (simp needs (omega arith), λ n. absurd n)
part_falls ws ls l r (Z2_wider x t v c i wider) = (simp needs (omega arith), λ n. simp needs (omega arith))
part_falls ws ls l r (Z3 x j k v c) = (simp needs (omega arith), λ n. simp needs (omega arith))
part_falls ws ls l r (Z4 x j k t a b c at is sum i less) = (simp needs (omega arith), λ n. simp needs (omega arith))
part_falls ws ls l r (Z4_whole x j a b at is i) = (simp needs (omega arith), λ n. absurd n)
part_falls ws ls l r (Z5 y t c v z i sum) = (simp needs (omega arith), λ n. simp needs (omega arith))
part_falls ws ls l r (Z6_zext op x v c) = (simp needs (omega arith), λ n. simp needs (omega arith))
part_falls ws ls l r (Z6_sext x v c) = (simp needs (omega arith), λ n. simp needs (omega arith))

boolean_falls : (ws ls : ℕ → ℕ) (l r : Expr) (f : Deciding l r) → Falls ws ls l r (boolean_is_new l r f)
boolean_falls ws ls l r (B1_xor k m c g z) = (
  arithmetic_some ws ls A.Xor k (E.Const c),
  λ n. (let g' : need ws ls m < two_need (height ls k) 0 = negated ws ls k m g in simp needs (omega arith)),
)
boolean_falls ws ls l r (B1_eq k m c g z) = (
  compare_has_some ws ls C.Eq k (E.Const c),
  λ n. (let g' : need ws ls m < two_need (height ls k) 0 = negated ws ls k m g in simp needs (omega arith)),
)
boolean_falls ws ls l r (B1_ne k m c g z) = (
  compare_has_some ws ls C.Ne k (E.Const c),
  λ n. (let g' : need ws ls m < two_need (height ls k) 0 = negated ws ls k m g in simp needs (omega arith)),
)
boolean_falls ws ls l r (B2_ne b c i z) = (compare_has_some ws ls C.Ne b (E.Const c), λ n. absurd n)
boolean_falls ws ls l r (B2_eq b c i z) = (compare_has_some ws ls C.Eq b (E.Const c), λ n. absurd n)

comparison_falls : (ws ls : ℕ → ℕ) (l r : Expr) (f : Comparing l r) → Falls ws ls l r (comparison_is_new l r f)
comparison_falls ws ls l r (C1_sub op x y c k z) = (
  compare_has_some ws ls op (E.Arithmetic A.Sub x y) (E.Const c),
  λ n. (let less : max (height ls x) (height ls y) < height ls (E.Arithmetic A.Sub x y) = simp needs (omega arith) in
      equality ws ls op x y c (E.Arithmetic A.Sub x y) k less),
)
comparison_falls ws ls l r (C1_xor op x y c k z) = (
  compare_has_some ws ls op (E.Arithmetic A.Xor x y) (E.Const c),
  λ n. (let less : max (height ls x) (height ls y) < height ls (E.Arithmetic A.Xor x y) = simp needs (omega arith) in
      equality ws ls op x y c (E.Arithmetic A.Xor x y) k less),
)
comparison_falls ws ls l r (C2_add op x c d e k f) = (
  compare_has_some ws ls op (E.Arithmetic A.Add x (E.Const c)) (E.Const d),
  λ n. (let less : height ls x < height ls (E.Arithmetic A.Add x (E.Const c)) = simp needs (omega arith) in
      equality_const ws ls op x e d (E.Arithmetic A.Add x (E.Const c)) k less),
)
comparison_falls ws ls l r (C2_add_over op x c d e k f) = (
  compare_has_some ws ls op (E.Arithmetic A.Add (E.Const c) x) (E.Const d),
  λ n. (let less : height ls x < height ls (E.Arithmetic A.Add (E.Const c) x) = simp needs (omega arith) in
      equality_const ws ls op x e d (E.Arithmetic A.Add (E.Const c) x) k less),
)
comparison_falls ws ls l r (C2_sub op x c d e k f) = (
  compare_has_some ws ls op (E.Arithmetic A.Sub x (E.Const c)) (E.Const d),
  λ n. (let less : height ls x < height ls (E.Arithmetic A.Sub x (E.Const c)) = simp needs (omega arith) in
      equality_const ws ls op x e d (E.Arithmetic A.Sub x (E.Const c)) k less),
)
comparison_falls ws ls l r (C3_ne x y c a b z) = (simp needs (omega arith), λ n. simp needs (omega arith))
comparison_falls ws ls l r (C3_eq x y c a b z) = (simp needs (omega arith), λ n. simp needs (omega arith))
comparison_falls ws ls l r (C4_signed x y a b) = (simp needs (omega arith), λ n. simp needs (omega arith))
comparison_falls ws ls l r (C4_signed_over x y a b) = (simp needs (omega arith), λ n. simp needs (omega arith))
comparison_falls ws ls l r (C4 x y a b) = (simp needs (omega arith), λ n. simp needs (omega arith))
comparison_falls ws ls l r (C4_over x y a b) = (simp needs (omega arith), λ n. simp needs (omega arith))
comparison_falls ws ls l r (C5_signed x y a b) = (simp needs (omega arith), λ n. simp needs (omega arith))
comparison_falls ws ls l r (C5_signed_over x y a b) = (simp needs (omega arith), λ n. simp needs (omega arith))
comparison_falls ws ls l r (C5 x y a b) = (simp needs (omega arith), λ n. simp needs (omega arith))
comparison_falls ws ls l r (C5_over x y a b) = (simp needs (omega arith), λ n. simp needs (omega arith))
comparison_falls ws ls l r (C6 op x c z k f) = (simp needs (omega arith), λ n. absurd n)
comparison_falls ws ls l r (C7_below_zero x c z k f) = (simp needs (omega arith), λ n. absurd n)
comparison_falls ws ls l r (C7_from_zero x c o k f) = (simp needs (omega arith), λ n. absurd n)
comparison_falls ws ls l r (C7_below_one x c z k f) = (simp needs (omega arith), λ n. simp needs (omega arith))
comparison_falls ws ls l r (C7_to_zero x c k) = (simp needs (omega arith), λ n. simp needs (omega arith))
comparison_falls ws ls l r (C8 op x o a f) = (compare_has_some ws ls op x x, λ n. absurd n)
comparison_falls ws ls l r (C8_signed op x o a f) = (simp needs (omega arith), λ n. absurd n)

form_falls : (ws ls : ℕ → ℕ) (l r : Expr) (f : Form ws l r) → Falls ws ls l r (form_is_new ws l r f)
form_falls ws ls l r (OfFolds x y f) = (fold_falls ws ls l r f, λ n. absurd n)
form_falls ws ls l r (OfArithmetic x y f) = sum_falls ws ls l r f
form_falls ws ls l r (OfShifts x y f) = shift_falls ws ls l r f
form_falls ws ls l r (OfParts x y f) = part_falls ws ls l r f
form_falls ws ls l r (OfBooleans x y f) = boolean_falls ws ls l r f
form_falls ws ls l r (OfComparisons x y f) = comparison_falls ws ls l r f

-- ---- rules

more_in : (ws ls : ℕ → ℕ) (l : Expr-F Expr) → need_in (λ o. 0) ws ls l ≤ need_in open_right ws ls l
more_in ws ls (Expr-F.Const c) = omega arith
more_in ws ls (Expr-F.Var v) = omega arith
more_in ws ls (Expr-F.Unary op a) = omega arith
more_in ws ls (Expr-F.Arithmetic op a b) = sum_more op (height ls a) (height ls b) (open_right (constant_of b))
more_in ws ls (Expr-F.Division op a b) = omega arith
more_in ws ls (Expr-F.SignedDivision op a b) = omega arith
more_in ws ls (Expr-F.Shift op a b) = omega arith
more_in ws ls (Expr-F.Compare op a b) = compare_more op (height ls a) (height ls b) (open_right (constant_of b))
more_in ws ls (Expr-F.SignedCompare op a b) = omega arith
more_in ws ls (Expr-F.Extend op w a) = omega arith
more_in ws ls (Expr-F.Part k w a) = omega arith
more_in ws ls (Expr-F.Concat a b) = omega arith
more_in ws ls (Expr-F.Overflow op a b) = omega arith
more_in ws ls (Expr-F.Count op a) = omega arith

bare_most : (ws ls : ℕ → ℕ) (e : Expr) → bare ws ls e ≤ need ws ls e
bare_most ws ls = ind-Expr (λ e. bare ws ls e ≤ need ws ls e)
    (λ l y is. subst (λ n. n ≤ need ws ls (roll-Expr l)) (sym (need_roll (λ o. 0) ws ls l))
    (subst (λ n. need_in (λ o. 0) ws ls l ≤ n) (sym (need_roll open_right ws ls l)) (more_in ws ls l)))

-- a form at an expression whose bare need is the same
lowered : (ws ls : ℕ → ℕ) (l k r : Expr) (new : Type 0) → bare ws ls k ≡ bare ws ls l → Falls ws ls k r new
    → (0 < need ws ls l) × (new → need ws ls r < need ws ls l)
lowered ws ls l k r new e f =
    let most : bare ws ls l ≤ need ws ls l = bare_most ws ls l in (
      (let some : 0 < bare ws ls k = f.0 in omega arith),
      λ n. (let less : need ws ls r < bare ws ls k = f.1 n in omega arith),
    )

module _ (ws ls : ℕ → ℕ) where
  turned : (op : ArithmeticOp) (x y : Expr) → Commutes op
      → bare ws ls (E.Arithmetic op x y) ≡ bare ws ls (E.Arithmetic op y x)
  turned op x y k =
      need_arithmetic (λ o. 0) ws ls op x y ∙ sum_turned op (height ls x) (height ls y) k
      ∙ sym (need_arithmetic (λ o. 0) ws ls op y x)

  turned_test : (op : CompareOp) (x y : Expr) → IsEquality op
      → bare ws ls (E.Compare op x y) ≡ bare ws ls (E.Compare op y x)
  turned_test op x y k =
      need_compare (λ o. 0) ws ls op x y ∙ test_turned op (height ls x) (height ls y) k
      ∙ sym (need_compare (λ o. 0) ws ls op y x)

  turned_flag : (op : OverflowOp) (x y : Expr) → bare ws ls (E.Overflow op x y) ≡ bare ws ls (E.Overflow op y x)
  turned_flag op x y =
      let e : two_need (height ls x) (height ls y) ≡ two_need (height ls y) (height ls x) = omega arith in
      need_overflow (λ o. 0) ws ls op x y ∙ e ∙ sym (need_overflow (λ o. 0) ws ls op y x)

  -- a constant that goes to the right
  over : (op : ArithmeticOp) (c : Word) (x : Expr) → Commutes op → constant_of x ≡ None
      → need ws ls (E.Arithmetic op x (E.Const c)) < need ws ls (E.Arithmetic op (E.Const c) x)
  over op c x k is = simp (needs, is) (sum_over op (height ls x) k)

  over_test : (op : CompareOp) (c : Word) (x : Expr) → IsEquality op → constant_of x ≡ None
      → need ws ls (E.Compare op x (E.Const c)) < need ws ls (E.Compare op (E.Const c) x)
  over_test op c x k is = simp (needs, is) (test_over op (height ls x) k)

  some_of : (e : Expr) → 0 < bare ws ls e → 0 < need ws ls e
  some_of e some = let most : bare ws ls e ≤ need ws ls e = bare_most ws ls e in omega arith

both : (ws ls : ℕ → ℕ) (l r : Expr) (f : Rule ws l r)
    → (0 < need ws ls l) × (is_new ws l r f → need ws ls r < need ws ls l)
both ws ls l r (AsNamed x y f) = lowered ws ls l l r (form_is_new ws l r f) refl (form_falls ws ls l r f)
both ws ls l r (Turned op x y z k f) =
    lowered ws ls l (E.Arithmetic op x y) r (form_is_new ws (E.Arithmetic op x y) r f)
    (turned ws ls op x y k) (form_falls ws ls (E.Arithmetic op x y) r f)
both ws ls l r (TurnedTest op x y z k f) = lowered ws ls l (E.Compare op x y) r (form_is_new ws (E.Compare op x y) r f)
    (turned_test ws ls op x y k) (form_falls ws ls (E.Compare op x y) r f)
both ws ls l r (TurnedFlag op x y z k f) =
    lowered ws ls l (E.Overflow op x y) r (form_is_new ws (E.Overflow op x y) r f)
    (turned_flag ws ls op x y) (form_falls ws ls (E.Overflow op x y) r f)
both ws ls l r (F2 op c x k never) = (
  some_of ws ls l (arithmetic_some ws ls op (E.Const c) x),
  λ n. over ws ls op c x k (no_constant x never),
)
both ws ls l r (F2_test op c x k never) = (
  some_of ws ls l (compare_has_some ws ls op (E.Const c) x),
  λ n. over_test ws ls op c x k (no_constant x never),
)

-- Every rule lowers the need of what it rewrites, by whatever levels of the variables.
pub lowers : (ws ls : ℕ → ℕ) (l r : Expr) (f : Rule ws l r) → Lowers ws ls l r f
lowers ws ls l r f = record { some = (both ws ls l r f).0; less = (both ws ls l r f).1 }
