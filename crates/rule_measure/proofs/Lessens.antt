-- An edit anywhere in an expression lessens the expression's total.
use Rattle.std.proofs.Common.{◌≡◌, ℕ, ◌+◌, ◌<◌, ◌≤◌, max, Bool, true, false, if◌then◌else◌, Option, Some, None, refl, sym, ap, ◌∙◌, subst, arith}
use Rattle.bits_core.specs.declared.word.Word.{Word}
use Rattle.cmeaning.specs.declared.tree.ArithmeticOp.{ArithmeticOp}
use Rattle.cmeaning.specs.declared.tree.ArithmeticOp.TheVariants as A
use Rattle.cmeaning.specs.declared.tree.ShiftOp.{ShiftOp}
use Rattle.cmeaning.specs.declared.tree.ShiftOp.TheVariants as H
use Rattle.cmeaning.specs.declared.tree.CompareOp.{CompareOp}
use Rattle.cmeaning.specs.declared.tree.CompareOp.TheVariants as C
use Rattle.cmeaning.specs.declared.tree.Expr.{Expr}
use Rattle.rules.specs.Size.{size_of}
use Rattle.rules.proofs.Sound.{sound}
use Rattle.rule_views.specs.declared.nodes.Single.{Single}
use Rattle.rule_views.specs.declared.nodes.Single.TheVariants as S
use Rattle.rule_views.specs.declared.nodes.Pair.{Pair}
use Rattle.rule_views.specs.declared.nodes.Pair.TheVariants as P
use Rattle.rule_views.specs.Nodes.{single_node, pair_node}
use Rattle.rule_views.proofs.Widths.{single_sized, pair_sized}
use Rattle.rule_measure.specs.Measure.{height, constant_of, open_right, past_bits, sum_need, shift_need, compare_need, need}
use Rattle.rule_measure.specs.Total.{total, Rewrites, Here, Under, OnLeft, OnRight, Lessens, Edits, NoEdit, OneMore}
use Rattle.rule_measure.proofs.Alike.{single_alike, pair_alike}
use Rattle.rule_measure.proofs.Needs as N
use Rattle.rule_measure.proofs.Totals as T
use Rattle.rule_measure.proofs.Edits.{rule_less, rule_height}

-- ---- a need is no less where the heights are not, and where as much may still be changed over

sum_grows : (op : ArithmeticOp) (a b c d m n : ℕ) → a ≤ c → b ≤ d → m ≤ n → sum_need op a b m ≤ sum_need op c d n
sum_grows A.Add a b c d m n p q r = omega arith
sum_grows A.Sub a b c d m n p q r = omega arith
sum_grows A.Mul a b c d m n p q r = omega arith
sum_grows A.And a b c d m n p q r = omega arith
sum_grows A.Or a b c d m n p q r = omega arith
sum_grows A.Xor a b c d m n p q r = omega arith

shift_grows : (op : ShiftOp) (a b c d m n : ℕ) → a ≤ c → b ≤ d → m ≤ n → shift_need op a b m ≤ shift_need op c d n
shift_grows H.Shl a b c d m n p q r = omega arith
shift_grows H.Shr a b c d m n p q r = omega arith
shift_grows H.Sar a b c d m n p q r = omega arith

compare_grows : (op : CompareOp) (a b c d m n : ℕ) → a ≤ c → b ≤ d → m ≤ n
    → compare_need op a b m ≤ compare_need op c d n
compare_grows C.Eq a b c d m n p q r = omega arith
compare_grows C.Ne a b c d m n p q r = omega arith
compare_grows C.Lt a b c d m n p q r = omega arith
compare_grows C.Le a b c d m n p q r = omega arith

at_most_one : (b : Bool) → (if b then 0 else 1) ≤ 1
at_most_one true = omega arith
at_most_one false = omega arith

past_most : (o : Option ℕ) (c : Option Word) → past_bits o c ≤ 1
past_most None c = omega arith
past_most (Some w) None = omega arith
past_most (Some w) (Some c) = at_most_one _

-- a size that is kept
past_kept : (o p : Option ℕ) (c : Option Word) → ((w : ℕ) → o ≡ Some w → p ≡ Some w) → past_bits p c ≤ past_bits o c
past_kept None p c h = past_most p c
past_kept (Some w) p c h =
    let le : past_bits (Some w) c ≤ past_bits (Some w) c = omega arith in
    subst (λ z. past_bits z c ≤ past_bits (Some w) c) (sym (h w refl)) le

-- a count that was no constant
past_open : (o : Option ℕ) (c : Option Word) → past_bits o c ≤ past_bits o None
past_open None c = omega arith
past_open (Some w) c = past_most (Some w) c

module _ (ws ls : ℕ → ℕ) where
  -- ---- of each kind of node

  single_total : (s : Single) (x : Expr) → total ws ls (single_node s x) ≡ need ws ls (single_node s x) + total ws ls x
  single_total (S.Unary op) x = T.total_unary ws ls op x
  single_total (S.Extend op w) x = T.total_extend ws ls op w x
  single_total (S.Part k w) x = T.total_part ws ls k w x
  single_total (S.Count op) x = T.total_count ws ls op x

  single_height : (s : Single) (x : Expr) → height ls (single_node s x) ≡ height ls x + 1
  single_height (S.Unary op) x = N.height_unary ls op x
  single_height (S.Extend op w) x = N.height_extend ls op w x
  single_height (S.Part k w) x = N.height_part ls k w x
  single_height (S.Count op) x = N.height_count ls op x

  single_need : (s : Single) (x y : Expr) → height ls y ≤ height ls x
      → need ws ls (single_node s y) ≤ need ws ls (single_node s x)
  single_need (S.Unary op) x y h = simp N.needs (omega arith)
  single_need (S.Extend op w) x y h = simp N.needs (omega arith)
  single_need (S.Part k w) x y h = simp N.needs (omega arith)
  single_need (S.Count op) x y h = simp N.needs (omega arith)

  pair_total : (p : Pair) (x z : Expr)
      → total ws ls (pair_node p x z) ≡ need ws ls (pair_node p x z) + (total ws ls x + total ws ls z)
  pair_total (P.Arithmetic op) x z = T.total_arithmetic ws ls op x z
  pair_total (P.Division op) x z = T.total_division ws ls op x z
  pair_total (P.SignedDivision op) x z = T.total_signed_division ws ls op x z
  pair_total (P.Shift op) x z = T.total_shift ws ls op x z
  pair_total (P.Compare op) x z = T.total_compare ws ls op x z
  pair_total (P.SignedCompare op) x z = T.total_signed_compare ws ls op x z
  pair_total P.Concat x z = T.total_concat ws ls x z
  pair_total (P.Overflow op) x z = T.total_overflow ws ls op x z

  pair_height : (p : Pair) (x z : Expr) → height ls (pair_node p x z) ≡ max (height ls x) (height ls z) + 1
  pair_height (P.Arithmetic op) x z = N.height_arithmetic ls op x z
  pair_height (P.Division op) x z = N.height_division ls op x z
  pair_height (P.SignedDivision op) x z = N.height_signed_division ls op x z
  pair_height (P.Shift op) x z = N.height_shift ls op x z
  pair_height (P.Compare op) x z = N.height_compare ls op x z
  pair_height (P.SignedCompare op) x z = N.height_signed_compare ls op x z
  pair_height P.Concat x z = N.height_concat ls x z
  pair_height (P.Overflow op) x z = N.height_overflow ls op x z

  -- the operands as they were, and as they become
  record Grows (x z y v : Expr) : Type 0 where
    left : height ls y ≤ height ls x
    right : height ls v ≤ height ls z
    over : open_right (constant_of v) ≤ open_right (constant_of z)
    past : past_bits (size_of ws y) (constant_of v) ≤ past_bits (size_of ws x) (constant_of z)

  pair_need : (p : Pair) (x z y v : Expr) → Grows x z y v → need ws ls (pair_node p y v) ≤ need ws ls (pair_node p x z)
  pair_need (P.Arithmetic op) x z y v g = simp N.needs (sum_grows op _ _ _ _ _ _ g.left g.right g.over)
  pair_need (P.Shift op) x z y v g = simp N.needs (shift_grows op _ _ _ _ _ _ g.left g.right g.past)
  pair_need (P.Compare op) x z y v g = simp N.needs (compare_grows op _ _ _ _ _ _ g.left g.right g.over)
  pair_need (P.Division op) x z y v g =
      let a : height ls y ≤ height ls x = g.left in
      let b : height ls v ≤ height ls z = g.right in
      simp N.needs (omega arith)
  pair_need (P.SignedDivision op) x z y v g =
      let a : height ls y ≤ height ls x = g.left in
      let b : height ls v ≤ height ls z = g.right in
      simp N.needs (omega arith)
  pair_need (P.SignedCompare op) x z y v g =
      let a : height ls y ≤ height ls x = g.left in
      let b : height ls v ≤ height ls z = g.right in
      simp N.needs (omega arith)
  pair_need P.Concat x z y v g =
      let a : height ls y ≤ height ls x = g.left in
      let b : height ls v ≤ height ls z = g.right in
      simp N.needs (omega arith)
  pair_need (P.Overflow op) x z y v g =
      let a : height ls y ≤ height ls x = g.left in
      let b : height ls v ≤ height ls z = g.right in
      simp N.needs (omega arith)

  -- ---- an edit below a node

  -- what has a total is no constant
  no_word : (x : Expr) (n : ℕ) → n < total ws ls x → constant_of x ≡ None
  no_word x n less = N.no_constant x
      (λ c e. (let none : total ws ls x ≡ 0 = ap (total ws ls) e ∙ T.total_const ws ls c in omega arith))

  under : (s : Single) (x y : Expr) → Lessens ws ls x y → Lessens ws ls (single_node s x) (single_node s y)
  under s x y h =
      let less : total ws ls y < total ws ls x = h.less in
      let high : height ls y ≤ height ls x = h.no_higher in
      let n : need ws ls (single_node s y) ≤ need ws ls (single_node s x) = single_need s x y high in
      let t : total ws ls (single_node s x) ≡ need ws ls (single_node s x) + total ws ls x = single_total s x in
      let u : total ws ls (single_node s y) ≡ need ws ls (single_node s y) + total ws ls y = single_total s y in
      let a : height ls (single_node s x) ≡ height ls x + 1 = single_height s x in
      let b : height ls (single_node s y) ≡ height ls y + 1 = single_height s y in
      record {
        less = omega arith;
        no_higher = omega arith;
        size = λ w e. (
            let k = single_sized ws s x (w, e) in
            single_alike ws s y x (h.size k.0 k.1 ∙ sym k.1) ∙ e);
      }

  -- the operands' totals and heights
  below : (p : Pair) (x z y v : Expr) → Grows x z y v → total ws ls y + total ws ls v < total ws ls x + total ws ls z
      → ((w : ℕ) → size_of ws (pair_node p x z) ≡ Some w → size_of ws (pair_node p y v) ≡ Some w)
      → Lessens ws ls (pair_node p x z) (pair_node p y v)
  below p x z y v g less size =
      let left : height ls y ≤ height ls x = g.left in
      let right : height ls v ≤ height ls z = g.right in
      let n : need ws ls (pair_node p y v) ≤ need ws ls (pair_node p x z) = pair_need p x z y v g in
      let t : total ws ls (pair_node p x z) ≡ need ws ls (pair_node p x z) + (total ws ls x + total ws ls z) =
      pair_total p x z in
      let u : total ws ls (pair_node p y v) ≡ need ws ls (pair_node p y v) + (total ws ls y + total ws ls v) =
      pair_total p y v in
      let a : height ls (pair_node p x z) ≡ max (height ls x) (height ls z) + 1 = pair_height p x z in
      let b : height ls (pair_node p y v) ≡ max (height ls y) (height ls v) + 1 = pair_height p y v in
      record { less = omega arith; no_higher = omega arith; size = size }

  on_left : (p : Pair) (x y z : Expr) → Lessens ws ls x y → Lessens ws ls (pair_node p x z) (pair_node p y z)
  on_left p x y z h =
      let less : total ws ls y < total ws ls x = h.less in
      below p x z y z
      (record {
        left = h.no_higher;
        right = omega arith;
        over = omega arith;
        past = past_kept (size_of ws x) (size_of ws y) (constant_of z) h.size;
      })
      (omega arith)
      (λ w e. (
      let k = (pair_sized ws p x z (w, e)).0 in
      pair_alike ws p y z x z (h.size k.0 k.1 ∙ sym k.1) refl ∙ e))

  on_right : (p : Pair) (x y z : Expr) → Lessens ws ls x y → Lessens ws ls (pair_node p z x) (pair_node p z y)
  on_right p x y z h =
      let less : total ws ls y < total ws ls x = h.less in
      let is : constant_of x ≡ None = no_word x (total ws ls y) less in
      below p z x z y
      (record {
        left = omega arith;
        right = h.no_higher;
        over = subst (λ o. open_right (constant_of y) ≤ open_right o) (sym is) (N.open_most (constant_of y));
        past = subst (λ o. past_bits (size_of ws z) (constant_of y) ≤ past_bits (size_of ws z) o) (sym is)
            (past_open (size_of ws z) (constant_of y));
      })
      (omega arith)
      (λ w e. (
      let k = (pair_sized ws p z x (w, e)).1 in
      pair_alike ws p z y z x refl (h.size k.0 k.1 ∙ sym k.1) ∙ e))

  -- An edit lessens the total of what it is made in, makes it no higher and keeps its width.
  pub lessens : (x y : Expr) → Rewrites ws x y → Lessens ws ls x y
  lessens x y (Here l r f) = record {
    less = rule_less ws ls x y f;
    no_higher = rule_height ws ls x y f;
    size = (sound ws x y f).size;
  }
  lessens x y (Under s a b e) = under s a b (lessens a b e)
  lessens x y (OnLeft p a b z e) = on_left p a b z (lessens a b e)
  lessens x y (OnRight p a b z e) = on_right p a b z (lessens a b e)

  -- An expression sees at most as many edits as its total, whatever the levels are.
  pub edits_most : (n : ℕ) (x z : Expr) → Edits ws n x z → n + total ws ls z ≤ total ws ls x
  edits_most n x z (NoEdit m y none) = omega arith
  edits_most n x z (OneMore m k u y v is e rest) =
      let less : total ws ls y < total ws ls x = (lessens x y e).less in
      let most : k + total ws ls z ≤ total ws ls y = edits_most k y z rest in
      omega arith
