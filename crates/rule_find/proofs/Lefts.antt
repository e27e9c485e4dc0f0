-- What kind of node the left side of a rule is.
use Rattle.std.proofs.Common.{◌≡◌, ℕ, refl}
use Rattle.cmeaning.specs.declared.tree.UnaryOp.TheVariants as U
use Rattle.cmeaning.specs.declared.tree.ArithmeticOp.TheVariants as O
use Rattle.cmeaning.specs.declared.tree.DivisionOp.TheVariants as D
use Rattle.cmeaning.specs.declared.tree.SignedDivisionOp.TheVariants as I
use Rattle.cmeaning.specs.declared.tree.ShiftOp.TheVariants as H
use Rattle.cmeaning.specs.declared.tree.CompareOp.TheVariants as C
use Rattle.cmeaning.specs.declared.tree.ExtendOp.TheVariants as Y
use Rattle.cmeaning.specs.declared.tree.Expr.{Expr}
use Rattle.cmeaning.specs.declared.tree.Expr.TheVariants as E
use Rattle.rules.specs.Folds as F
use Rattle.rules.specs.Folds.{IsClosed, Folding, F1}
use Rattle.rules.specs.Arithmetic.{Summing, A1, A2_mul, A2_and, A2_div, A2_sdiv, A3, A4_none, A4_same, A5_add_add, A5_add_add_over, A5_sub_sub, A5_add_sub, A5_add_sub_over, A5_sub_add, A6, A6_over, A7, A8_add, A8_sub}
use Rattle.rules.specs.Shifts.{Shifting, A1_shift, S1, S2}
use Rattle.rules.specs.Parts.{Parting, Z1_low, Z1_low_whole, Z1_high, Z1_high_whole, Z2_within, Z2_whole, Z2_past, Z2_wider, Z3, Z4, Z4_whole, Z5, Z6_zext, Z6_sext}
use Rattle.rules.specs.Booleans.{Deciding, B1_xor, B1_eq, B1_ne, B2_ne, B2_eq}
use Rattle.rules.specs.Comparisons.{Comparing, C1_sub, C1_xor, C2_add, C2_add_over, C2_sub, C3_ne, C3_eq, C4_signed, C4_signed_over, C4, C4_over, C5_signed, C5_signed_over, C5, C5_over, C6, C7_below_zero, C7_from_zero, C7_below_one, C7_to_zero, C8, C8_signed}
use Rattle.rules.specs.Table.{Form, OfFolds, OfArithmetic, OfShifts, OfParts, OfBooleans, OfComparisons, Rule, AsNamed, Turned, TurnedTest, TurnedFlag, F2, F2_test}
use Rattle.rule_views.specs.declared.nodes.Single.{Single}
use Rattle.rule_views.specs.declared.nodes.Single.TheVariants as S
use Rattle.rule_views.specs.declared.nodes.Pair.{Pair}
use Rattle.rule_views.specs.declared.nodes.Pair.TheVariants as P
use Rattle.rule_views.specs.Nodes.{single_node, pair_node}

-- a node with two operands
pub data IsPairNode (l : Expr) : Type 0 where
  Two : (p : Pair) (x y : Expr) → l ≡ pair_node p x y → IsPairNode l

pub data IsNode (l : Expr) : Type 0 where
  OfTwo : (p : Pair) (x y : Expr) → l ≡ pair_node p x y → IsNode l
  OfOne : (s : Single) (x : Expr) → l ≡ single_node s x → IsNode l

closed_node : (l : Expr) → IsClosed l → IsNode l
closed_node l (F.Unary op c) = OfOne (S.Unary op) _ refl
closed_node l (F.Arithmetic op c d) = OfTwo (P.Arithmetic op) _ _ refl
closed_node l (F.Division op c d) = OfTwo (P.Division op) _ _ refl
closed_node l (F.SignedDivision op c d) = OfTwo (P.SignedDivision op) _ _ refl
closed_node l (F.Shift op c d) = OfTwo (P.Shift op) _ _ refl
closed_node l (F.Compare op c d) = OfTwo (P.Compare op) _ _ refl
closed_node l (F.SignedCompare op c d) = OfTwo (P.SignedCompare op) _ _ refl
closed_node l (F.Extend op w c) = OfOne (S.Extend op w) _ refl
closed_node l (F.Part k w c) = OfOne (S.Part k w) _ refl
closed_node l (F.Concat c d) = OfTwo P.Concat _ _ refl
closed_node l (F.Overflow op c d) = OfTwo (P.Overflow op) _ _ refl
closed_node l (F.Count op c) = OfOne (S.Count op) _ refl

fold_node : (ws : ℕ → ℕ) (l r : Expr) → Folding ws l r → IsNode l
fold_node ws l r (F1 m e c v) = closed_node l c

sum_node : (ws : ℕ → ℕ) (l r : Expr) → Summing ws l r → IsNode l
sum_node ws l r (A1 op x c k z) = OfTwo (P.Arithmetic op) x (E.Const c) refl
sum_node ws l r (A2_mul x c o) = OfTwo (P.Arithmetic O.Mul) x (E.Const c) refl
sum_node ws l r (A2_and x c o) = OfTwo (P.Arithmetic O.And) x (E.Const c) refl
sum_node ws l r (A2_div x c o) = OfTwo (P.Division D.Div) x (E.Const c) refl
sum_node ws l r (A2_sdiv x c o) = OfTwo (P.SignedDivision I.SDiv) x (E.Const c) refl
sum_node ws l r (A3 op x c k z) = OfTwo (P.Arithmetic op) x (E.Const c) refl
sum_node ws l r (A4_none op x z k a w n) = OfTwo (P.Arithmetic op) x x refl
sum_node ws l r (A4_same op x k a) = OfTwo (P.Arithmetic op) x x refl
sum_node ws l r (A5_add_add x c d e f) = OfTwo (P.Arithmetic O.Add) _ (E.Const d) refl
sum_node ws l r (A5_add_add_over x c d e f) = OfTwo (P.Arithmetic O.Add) _ (E.Const d) refl
sum_node ws l r (A5_sub_sub x c d e f) = OfTwo (P.Arithmetic O.Sub) _ (E.Const d) refl
sum_node ws l r (A5_add_sub x c d e f) = OfTwo (P.Arithmetic O.Sub) _ (E.Const d) refl
sum_node ws l r (A5_add_sub_over x c d e f) = OfTwo (P.Arithmetic O.Sub) _ (E.Const d) refl
sum_node ws l r (A5_sub_add x c d e f) = OfTwo (P.Arithmetic O.Add) _ (E.Const d) refl
sum_node ws l r (A6 op x c d e b f) = OfTwo (P.Arithmetic op) _ (E.Const d) refl
sum_node ws l r (A6_over op x c d e b f) = OfTwo (P.Arithmetic op) _ (E.Const d) refl
sum_node ws l r (A7 op x) = OfOne (S.Unary op) (E.Unary op x) refl
sum_node ws l r (A8_add x y) = OfTwo (P.Arithmetic O.Add) x (E.Unary U.Neg y) refl
sum_node ws l r (A8_sub x y) = OfTwo (P.Arithmetic O.Sub) x (E.Unary U.Neg y) refl

pub shift_pair : (ws : ℕ → ℕ) (l r : Expr) → Shifting ws l r → IsPairNode l
shift_pair ws l r (A1_shift op x c z) = Two (P.Shift op) _ _ refl
shift_pair ws l r (S1 op x c n w i m v) = Two (P.Shift op) _ _ refl
shift_pair ws l r (S2 x w c e i m v) = Two (P.Shift H.Sar) _ _ refl

part_node : (ws : ℕ → ℕ) (l r : Expr) → Parting ws l r → IsNode l
part_node ws l r (Z1_low x y k u w i m n) = OfOne (S.Part k w) _ refl
part_node ws l r (Z1_low_whole x y w i) = OfOne (S.Part 0 w) _ refl
part_node ws l r (Z1_high x y k t u w i j m n) = OfOne (S.Part k w) _ refl
part_node ws l r (Z1_high_whole x y k w i j) = OfOne (S.Part k w) _ refl
part_node ws l r (Z2_within x k u v w i m n) = OfOne (S.Part k w) _ refl
part_node ws l r (Z2_whole x v w i) = OfOne (S.Part 0 w) _ refl
part_node ws l r (Z2_past x k u v w z i m n) = OfOne (S.Part k w) _ refl
part_node ws l r (Z2_wider x u v w i m) = OfOne (S.Part 0 w) _ refl
part_node ws l r (Z3 x j k v w) = OfOne (S.Part k w) _ refl
part_node ws l r (Z4 x j k t a b c o m n i p) = OfTwo P.Concat _ _ refl
part_node ws l r (Z4_whole x j a b o m i) = OfTwo P.Concat _ _ refl
part_node ws l r (Z5 y u c w z i m) = OfTwo P.Concat (E.Const c) y refl
part_node ws l r (Z6_zext op x v w) = OfOne (S.Extend op w) _ refl
part_node ws l r (Z6_sext x v w) = OfOne (S.Extend Y.Sext w) _ refl

pub boolean_pair : (l r : Expr) → Deciding l r → IsPairNode l
boolean_pair l r (B1_xor k n c m v) = Two (P.Arithmetic O.Xor) _ _ refl
boolean_pair l r (B1_eq k n c m v) = Two (P.Compare C.Eq) _ _ refl
boolean_pair l r (B1_ne k n c m v) = Two (P.Compare C.Ne) _ _ refl
boolean_pair l r (B2_ne b c t v) = Two (P.Compare C.Ne) _ _ refl
boolean_pair l r (B2_eq b c t v) = Two (P.Compare C.Eq) _ _ refl

pub comparison_pair : (l r : Expr) → Comparing l r → IsPairNode l
comparison_pair l r (C1_sub op x y c q z) = Two (P.Compare op) _ _ refl
comparison_pair l r (C1_xor op x y c q z) = Two (P.Compare op) _ _ refl
comparison_pair l r (C2_add op x c d e q f) = Two (P.Compare op) _ _ refl
comparison_pair l r (C2_add_over op x c d e q f) = Two (P.Compare op) _ _ refl
comparison_pair l r (C2_sub op x c d e q f) = Two (P.Compare op) _ _ refl
comparison_pair l r (C3_ne x y c a b z) = Two (P.Compare C.Ne) _ _ refl
comparison_pair l r (C3_eq x y c a b z) = Two (P.Compare C.Eq) _ _ refl
comparison_pair l r (C4_signed x y a b) = Two (P.Arithmetic O.Or) _ _ refl
comparison_pair l r (C4_signed_over x y a b) = Two (P.Arithmetic O.Or) _ _ refl
comparison_pair l r (C4 x y a b) = Two (P.Arithmetic O.Or) _ _ refl
comparison_pair l r (C4_over x y a b) = Two (P.Arithmetic O.Or) _ _ refl
comparison_pair l r (C5_signed x y a b) = Two (P.Arithmetic O.And) _ _ refl
comparison_pair l r (C5_signed_over x y a b) = Two (P.Arithmetic O.And) _ _ refl
comparison_pair l r (C5 x y a b) = Two (P.Arithmetic O.And) _ _ refl
comparison_pair l r (C5_over x y a b) = Two (P.Arithmetic O.And) _ _ refl
comparison_pair l r (C6 op x c z v w) = Two (P.Overflow op) _ _ refl
comparison_pair l r (C7_below_zero x c z v w) = Two (P.Compare C.Lt) _ _ refl
comparison_pair l r (C7_from_zero x c o v w) = Two (P.Compare C.Le) _ _ refl
comparison_pair l r (C7_below_one x c z v w) = Two (P.Compare C.Lt) _ _ refl
comparison_pair l r (C7_to_zero x c v) = Two (P.Compare C.Le) _ _ refl
comparison_pair l r (C8 op x o a w) = Two (P.Compare op) _ _ refl
comparison_pair l r (C8_signed op x o a w) = Two (P.SignedCompare op) _ _ refl

of_pair : (l : Expr) → IsPairNode l → IsNode l
of_pair l (Two p x y is) = OfTwo p x y is

form_node : (ws : ℕ → ℕ) (l r : Expr) → Form ws l r → IsNode l
form_node ws l r (OfFolds m n f) = fold_node ws l r f
form_node ws l r (OfArithmetic m n f) = sum_node ws l r f
form_node ws l r (OfShifts m n f) = of_pair l (shift_pair ws l r f)
form_node ws l r (OfParts m n f) = part_node ws l r f
form_node ws l r (OfBooleans m n f) = of_pair l (boolean_pair l r f)
form_node ws l r (OfComparisons m n f) = of_pair l (comparison_pair l r f)

-- the left side of a rule is a node
pub rule_node : (ws : ℕ → ℕ) (l r : Expr) → Rule ws l r → IsNode l
rule_node ws l r (AsNamed m n f) = form_node ws l r f
rule_node ws l r (Turned op x y n k f) = OfTwo (P.Arithmetic op) y x refl
rule_node ws l r (TurnedTest op x y n k f) = OfTwo (P.Compare op) y x refl
rule_node ws l r (TurnedFlag op x y n k f) = OfTwo (P.Overflow op) y x refl
rule_node ws l r (F2 op c x k n) = OfTwo (P.Arithmetic op) (E.Const c) x refl
rule_node ws l r (F2_test op c x k n) = OfTwo (P.Compare op) (E.Const c) x refl
