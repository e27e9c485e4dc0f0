-- What the rules of 0 and 1 keep.
use Rattle.std.proofs.Common.{◌≡◌, ℕ, ◌≤◌, sym, ap, ◌∙◌, subst, arith}
use Rattle.bits_core.specs.declared.word.Word.{Word}
use Rattle.bits_core.specs.Value.{eq, binary_value}
use Rattle.laws.proofs.Compare as compare
use Rattle.cmeaning.specs.declared.tree.ArithmeticOp.TheVariants.{Xor}
use Rattle.cmeaning.specs.declared.tree.CompareOp.{CompareOp}
use Rattle.cmeaning.specs.declared.tree.CompareOp.TheVariants as C
use Rattle.cmeaning.specs.declared.tree.SignedCompareOp.{SignedCompareOp}
use Rattle.cmeaning.specs.declared.tree.SignedCompareOp.TheVariants as S
use Rattle.cmeaning.specs.declared.tree.OverflowOp.{OverflowOp}
use Rattle.cmeaning.specs.declared.tree.OverflowOp.TheVariants as O
use Rattle.cmeaning.specs.declared.tree.Expr.{Expr}
use Rattle.cmeaning.specs.declared.tree.Expr.TheVariants as E
use Rattle.cmeaning.specs.Value.{arithmetic_of, compare_of, signed_compare_of, overflow_of}
use Rattle.rules.specs.Size.{depth_of}
use Rattle.rules.specs.Letters.{Negated, Eq, Ne, Lt, Le, SLt, SLe, IsTest, Compare, SignedCompare, Overflow}
use Rattle.rules.specs.Booleans.{Deciding, B1_xor, B1_eq, B1_ne, B2_ne, B2_eq}
use Rattle.rules.proofs.Nodes.{depths}
use Rattle.rules.proofs.Has as H
use Rattle.rules.proofs.Has.{Under, Has}

compare_most : (op : CompareOp) (t x y : ℕ) → binary_value (compare_of op) t x t y 1 ≤ 1
compare_most C.Eq t x y = compare.eq_most x y
compare_most C.Ne t x y = compare.ne_most x y
compare_most C.Lt t x y = compare.lt_most x y
compare_most C.Le t x y = compare.le_most x y

signed_compare_most : (op : SignedCompareOp) (t x y : ℕ) → binary_value (signed_compare_of op) t x t y 1 ≤ 1
signed_compare_most S.SLt t x y = compare.slt_most t x y
signed_compare_most S.SLe t x y = compare.sle_most t x y

overflow_most : (op : OverflowOp) (t x y : ℕ) → binary_value (overflow_of op) t x t y 1 ≤ 1
overflow_most O.Carry t x y = compare.carry_most t x y
overflow_most O.SCarry t x y = compare.scarry_most t x y
overflow_most O.SBorrow t x y = compare.sborrow_most t x y

-- a test is one byte wide, and 0 or 1
pub test_most : (ws : ℕ → ℕ) (u : Under ws) (b : Expr) → IsTest b → (w n : ℕ) → Has ws u b w n → (w ≡ 1) × (n ≤ 1)
test_most ws u b (Compare op x y) w n h =
    let t = H.compare_has ws u op x y h in
    (t.byte, subst (λ k. k ≤ 1) t.two.is (compare_most op t.width t.two.x t.two.y))
test_most ws u b (SignedCompare op x y) w n h =
    let t = H.signed_compare_has ws u op x y h in
    (t.byte, subst (λ k. k ≤ 1) t.two.is (signed_compare_most op t.width t.two.x t.two.y))
test_most ws u b (Overflow op x y) w n h =
    let t = H.overflow_has ws u op x y h in
    (t.byte, subst (λ k. k ≤ 1) t.two.is (overflow_most op t.width t.two.x t.two.y))

pub negated_test : (k m : Expr) → Negated k m → IsTest k
negated_test k m (Eq x y) = Compare C.Eq x y
negated_test k m (Ne x y) = Compare C.Ne x y
negated_test k m (Lt x y) = Compare C.Lt x y
negated_test k m (Le x y) = Compare C.Le x y
negated_test k m (SLt x y) = SignedCompare S.SLt x y
negated_test k m (SLe x y) = SignedCompare S.SLe x y

-- the comparison negated is whether the comparison is 0
module _ (ws : ℕ → ℕ) (u : Under ws) where
  compare_negated : (op to : CompareOp) (x y : Expr) (w n : ℕ)
      → ((t a b : ℕ) → eq (binary_value (compare_of op) t a t b 1) 0 ≡ binary_value (compare_of to) t a t b 1)
      → Has ws u (E.Compare op x y) w n → Has ws u (E.Compare to x y) w (eq n 0)
  compare_negated op to x y w n law h =
      let t = H.compare_has ws u op x y h in
      H.compare_made ws u to x y w (eq n 0) t.two.left t.two.right t.byte
      (sym (law t.width t.two.x t.two.y) ∙ ap (λ v. eq v 0) t.two.is)

  compare_negated_over : (op to : CompareOp) (x y : Expr) (w n : ℕ)
      → ((t a b : ℕ) → eq (binary_value (compare_of op) t a t b 1) 0 ≡ binary_value (compare_of to) t b t a 1)
      → Has ws u (E.Compare op x y) w n → Has ws u (E.Compare to y x) w (eq n 0)
  compare_negated_over op to x y w n law h =
      let t = H.compare_has ws u op x y h in
      H.compare_made ws u to y x w (eq n 0) t.two.right t.two.left t.byte
      (sym (law t.width t.two.x t.two.y) ∙ ap (λ v. eq v 0) t.two.is)

  signed_negated_over : (op to : SignedCompareOp) (x y : Expr) (w n : ℕ)
      → ((t a b : ℕ) → eq (binary_value (signed_compare_of op) t a t b 1) 0
      ≡ binary_value (signed_compare_of to) t b t a 1)
      → Has ws u (E.SignedCompare op x y) w n → Has ws u (E.SignedCompare to y x) w (eq n 0)
  signed_negated_over op to x y w n law h =
      let t = H.signed_compare_has ws u op x y h in
      H.signed_compare_made ws u to y x w (eq n 0) t.two.right t.two.left t.byte
      (sym (law t.width t.two.x t.two.y) ∙ ap (λ v. eq v 0) t.two.is)

pub negated_has : (ws : ℕ → ℕ) (u : Under ws) (k m : Expr)
    → Negated k m
    → (w n : ℕ)
    → Has ws u k w n
    → Has ws u m w (eq n 0)
negated_has ws u k m (Eq x y) w n h = compare_negated ws u C.Eq C.Ne x y w n (λ t a b. compare.not_eq a b) h
negated_has ws u k m (Ne x y) w n h = compare_negated ws u C.Ne C.Eq x y w n (λ t a b. compare.not_ne a b) h
negated_has ws u k m (Lt x y) w n h = compare_negated_over ws u C.Lt C.Le x y w n (λ t a b. compare.not_lt a b) h
negated_has ws u k m (Le x y) w n h = compare_negated_over ws u C.Le C.Lt x y w n (λ t a b. compare.not_le a b) h
negated_has ws u k m (SLt x y) w n h = signed_negated_over ws u S.SLt S.SLe x y w n (λ t a b. compare.not_slt t a b) h
negated_has ws u k m (SLe x y) w n h = signed_negated_over ws u S.SLe S.SLt x y w n (λ t a b. compare.not_sle t a b) h

pub negated_depth : (k m : Expr) → Negated k m → depth_of m ≡ depth_of k
negated_depth k m (Eq x y) = simp depths (omega arith)
negated_depth k m (Ne x y) = simp depths (omega arith)
negated_depth k m (Lt x y) = simp depths (omega arith)
negated_depth k m (Le x y) = simp depths (omega arith)
negated_depth k m (SLt x y) = simp depths (omega arith)
negated_depth k m (SLe x y) = simp depths (omega arith)

module _ (ws : ℕ → ℕ) (u : Under ws) where
  b1_xor : (k m : Expr) (c : Word) → Negated k m → c.value ≡ 1 → (w n : ℕ)
      → Has ws u (E.Arithmetic Xor k (E.Const c)) w n → Has ws u m w n
  b1_xor k m c g one w n h =
      let p = H.arithmetic_has ws u Xor k (E.Const c) h in
      let y : 1 ≡ p.y = sym one ∙ (H.const_is ws u c p.right).1 in
      let most = (test_most ws u k (negated_test k m g) w p.x p.left).1 in
      let f : ℕ → ℕ = λ b. binary_value (arithmetic_of Xor) w p.x w b w in
      subst (λ v. Has ws u m w v) (sym (compare.xor_one p.x most) ∙ ap f y ∙ p.is) (negated_has ws u k m g w p.x p.left)

  -- a test beside a constant of value v
  tested : (op : CompareOp) (b : Expr) (c : Word) (v : ℕ) → IsTest b → c.value ≡ v → (w n : ℕ)
      → Has ws u (E.Compare op b (E.Const c)) w n
      → (a : ℕ) × (Has ws u b w a × (a ≤ 1) × (binary_value (compare_of op) 1 a 1 v 1 ≡ n))
  tested op b c v i z w n h =
      let p = H.compare_has ws u op b (E.Const c) h in
      let most = test_most ws u b i p.width p.two.x p.two.left in
      let y : v ≡ p.two.y = sym z ∙ (H.const_is ws u c p.two.right).1 in
      let f : ℕ → ℕ → ℕ = λ t k. binary_value (compare_of op) t p.two.x t k 1 in (
        p.two.x,
        (
          subst (λ t. Has ws u b t p.two.x) (most.0 ∙ sym p.byte) p.two.left,
          most.1,
          ap (f 1) y ∙ ap (λ t. f t p.two.y) (sym most.0) ∙ p.two.is,
        ),
      )

  b1_eq : (k m : Expr) (c : Word) → Negated k m → c.value ≡ 0 → (w n : ℕ)
      → Has ws u (E.Compare C.Eq k (E.Const c)) w n → Has ws u m w n
  b1_eq k m c g z w n h =
      let t = tested C.Eq k c 0 (negated_test k m g) z w n h in
      subst (λ v. Has ws u m w v) t.1.2 (negated_has ws u k m g w t.0 t.1.0)

  b1_ne : (k m : Expr) (c : Word) → Negated k m → c.value ≡ 1 → (w n : ℕ)
      → Has ws u (E.Compare C.Ne k (E.Const c)) w n → Has ws u m w n
  b1_ne k m c g z w n h =
      let t = tested C.Ne k c 1 (negated_test k m g) z w n h in
      subst (λ v. Has ws u m w v) (sym (compare.ne_one t.0 t.1.1) ∙ t.1.2) (negated_has ws u k m g w t.0 t.1.0)

  b2_ne : (b : Expr) (c : Word) → IsTest b → c.value ≡ 0 → (w n : ℕ)
      → Has ws u (E.Compare C.Ne b (E.Const c)) w n → Has ws u b w n
  b2_ne b c i z w n h =
      let t = tested C.Ne b c 0 i z w n h in
      subst (λ v. Has ws u b w v) (sym (compare.ne_zero t.0 t.1.1) ∙ t.1.2) t.1.0

  b2_eq : (b : Expr) (c : Word) → IsTest b → c.value ≡ 1 → (w n : ℕ)
      → Has ws u (E.Compare C.Eq b (E.Const c)) w n → Has ws u b w n
  b2_eq b c i z w n h =
      let t = tested C.Eq b c 1 i z w n h in
      subst (λ v. Has ws u b w v) (sym (compare.eq_one t.0 t.1.1) ∙ t.1.2) t.1.0

pub boolean_has : (ws : ℕ → ℕ) (u : Under ws) (l r : Expr) → Deciding l r → (w n : ℕ) → Has ws u l w n → Has ws u r w n
boolean_has ws u l r (B1_xor k m c g z) w n h = b1_xor ws u k m c g z w n h
boolean_has ws u l r (B1_eq k m c g z) w n h = b1_eq ws u k m c g z w n h
boolean_has ws u l r (B1_ne k m c g z) w n h = b1_ne ws u k m c g z w n h
boolean_has ws u l r (B2_ne b c i z) w n h = b2_ne ws u b c i z w n h
boolean_has ws u l r (B2_eq b c i z) w n h = b2_eq ws u b c i z w n h

pub boolean_depth : (l r : Expr) → Deciding l r → depth_of r ≤ depth_of l
boolean_depth l r (B1_xor k m c g z) =
    let e : depth_of m ≡ depth_of k = negated_depth k m g in
    simp depths (omega arith)
boolean_depth l r (B1_eq k m c g z) = let e : depth_of m ≡ depth_of k = negated_depth k m g in simp depths (omega arith)
boolean_depth l r (B1_ne k m c g z) = let e : depth_of m ≡ depth_of k = negated_depth k m g in simp depths (omega arith)
boolean_depth l r (B2_ne b c i z) = simp depths (omega arith)
boolean_depth l r (B2_eq b c i z) = simp depths (omega arith)
