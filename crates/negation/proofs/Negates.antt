-- What the negation of a condition is for.
use Rattle.std.proofs.Common.{◌≡◌, ℕ, ◌+◌, ◌<◌, ◌≤◌, ◌==◌, ◌&&◌, nat_lt, max, Bool, true, false, not, if◌then◌else◌, Option, Some, None, Result, IfOk, refl, sym, ap, ◌∙◌, subst, arith}
use Rattle.std.proofs.lemmas.Bool.{eq-eqb}
use Rattle.std.proofs.lemmas.Result.{IfOk-weaker}
use Rattle.std.proofs.lemmas.Bool.Decides.{nat_tests}
use Rattle.bits_core.specs.declared.word.Word.{Word}
use Rattle.bits_core.specs.Value.{eq}
use Rattle.laws.specs.Condition.{taken}
use Rattle.laws.proofs.Conditions.{taken_other}
use Rattle.cmeaning.specs.declared.shape.Shape.{Shape}
use Rattle.cmeaning.specs.declared.tree.CompareOp.{CompareOp}
use Rattle.cmeaning.specs.declared.tree.CompareOp.TheVariants as C
use Rattle.cmeaning.specs.declared.tree.SignedCompareOp.{SignedCompareOp}
use Rattle.cmeaning.specs.declared.tree.SignedCompareOp.TheVariants as S
use Rattle.cmeaning.specs.declared.tree.Expr.{Expr, ind-Expr, roll-Expr, map-Expr}
use Rattle.cmeaning.specs.declared.tree.Expr.TheOpen.{Expr-F}
use Rattle.cmeaning.specs.declared.tree.Expr.TheVariants as E
use Rattle.cmeaning.specs.Shape.{above, one_shape, two_shape, shape_step, shape_of, is_condition, is_part, same_width, left_width, may_divide, may_divide_signed, may_join}
use Rattle.cmeaning.specs.Value.{value_of}
use Rattle.rules.specs.Size.{size_of, depth_of, AreWords}
use Rattle.rules.specs.Readings.{as_c}
use Rattle.rules.specs.Letters.{IsWide, IsWord, Negated, Eq, Ne, Lt, Le, SLt, SLe}
use Rattle.rules.proofs.Nodes.{depths, depth_some}
use Rattle.rules.proofs.Words.{some_is}
use Rattle.rules.proofs.Folds.{c_reads}
use Rattle.rules.proofs.Total.{everywhere, everywhere_reads, zeros, zero_words, total}
use Rattle.rules.proofs.Has as H
use Rattle.rules.proofs.Has.{Under, Has}
use Rattle.rules.proofs.Booleans.{negated_test, test_most, negated_has, negated_depth}
use Rattle.cmeaning.proofs.Layers.{shape_roll}
use Rattle.rules.proofs.Shapes.{level, some_shape, shape_size}
use Rattle.rules.proofs.Sound.{value_in_c}
use Rattle.negation.specs.Negation.{IsNegation, OfComparison, OfOther, Opposed, Negates}

-- the negation's value is whether the condition's is 0
is_zero_has : (ws : ℕ → ℕ) (u : Under ws) (e : Expr) (z : Word) (w a : ℕ) → z.width.bytes ≡ w → z.value ≡ 0
    → Has ws u e w a → Has ws u (E.Compare C.Eq e (E.Const z)) 1 (eq a 0)
is_zero_has ws u e z w a i v h =
    H.compare_made ws u C.Eq e (E.Const z) 1 (eq a 0) h (H.const_made ws u z w 0 i v) refl refl

negation_has : (ws : ℕ → ℕ) (u : Under ws) (w : ℕ) (e n : Expr) → IsNegation w e n → (a : ℕ) → Has ws u e w a
    → Has ws u n 1 (eq a 0)
negation_has ws u w e n (OfComparison x y g) a h =
    subst (λ v. Has ws u n v (eq a 0)) (test_most ws u e (negated_test e n g) w a h).0 (negated_has ws u e n g w a h)
negation_has ws u w e n (OfOther x z other i v) a h = is_zero_has ws u e z w a i v h

negation_depth : (w : ℕ) (e n : Expr) → IsNegation w e n → depth_of n ≤ depth_of e + 1
negation_depth w e n (OfComparison x y g) = let d : depth_of n ≡ depth_of e = negated_depth e n g in omega arith
negation_depth w e n (OfOther x z other i v) = let some : 0 < depth_of e = depth_some e in simp depths (omega arith)

-- ---- conditions

shape_compare : (ws : ℕ → ℕ) (op : CompareOp) (x y : Expr)
    → shape_of ws (E.Compare op x y) ≡ two_shape same_width (λ v w. 1) true (shape_of ws x) (shape_of ws y)
shape_compare ws op x y = ap (shape_of ws) (sym (E.rolls-Compare op x y)) ∙ shape_roll ws (Expr-F.Compare op x y)

shape_signed_compare : (ws : ℕ → ℕ) (op : SignedCompareOp) (x y : Expr)
    → shape_of ws (E.SignedCompare op x y) ≡ two_shape same_width (λ v w. 1) true (shape_of ws x) (shape_of ws y)
shape_signed_compare ws op x y =
    ap (shape_of ws) (sym (E.rolls-SignedCompare op x y)) ∙ shape_roll ws (Expr-F.SignedCompare op x y)

shape_const : (ws : ℕ → ℕ) (c : Word)
    → shape_of ws (E.Const c)
    ≡ Some (record { width = c.width.bytes; depth = 1; constant = Some c; comparison = false })
shape_const ws c = ap (shape_of ws) (sym (E.rolls-Const c)) ∙ shape_roll ws (Expr-F.Const c)

same_both : (v w : ℕ) → (v == w) ≡ (w == v)
same_both v w = grind (arith, nat_tests)

max_both : (a b : ℕ) → max a b ≡ max b a
max_both a b = omega arith

-- operands turned
turned : (o p : Option Shape) → two_shape same_width (λ v w. 1) true o p ≡ two_shape same_width (λ v w. 1) true p o
turned None None = refl
turned None (Some b) = refl
turned (Some a) None = refl
turned (Some a) (Some b) =
    ap (λ t. above t 1 (max a.depth b.depth) true) (same_both a.width b.width)
    ∙ ap (λ d. above (b.width == a.width) 1 d true) (max_both a.depth b.depth)

module _ (ws : ℕ → ℕ) where
  -- a comparison negated has the shape that it had
  negated_shape : (e n : Expr) → Negated e n → shape_of ws n ≡ shape_of ws e
  negated_shape e n (Eq x y) = shape_compare ws C.Ne x y ∙ sym (shape_compare ws C.Eq x y)
  negated_shape e n (Ne x y) = shape_compare ws C.Eq x y ∙ sym (shape_compare ws C.Ne x y)
  negated_shape e n (Lt x y) =
      shape_compare ws C.Le y x ∙ turned (shape_of ws y) (shape_of ws x) ∙ sym (shape_compare ws C.Lt x y)
  negated_shape e n (Le x y) =
      shape_compare ws C.Lt y x ∙ turned (shape_of ws y) (shape_of ws x) ∙ sym (shape_compare ws C.Le x y)
  negated_shape e n (SLt x y) =
      shape_signed_compare ws S.SLe y x ∙ turned (shape_of ws y) (shape_of ws x)
      ∙ sym (shape_signed_compare ws S.SLt x y)
  negated_shape e n (SLe x y) =
      shape_signed_compare ws S.SLt y x ∙ turned (shape_of ws y) (shape_of ws x)
      ∙ sym (shape_signed_compare ws S.SLe x y)

-- ---- what is no comparison

-- a shape of no comparison, at a depth that isn't 0
record IsPlain (s : Shape) : Type 0 where
  comparison : s.comparison ≡ false
  some : 0 < s.depth

plain_at : (right : Bool) (w d : ℕ) (s : Shape) → above right w d false ≡ Some s → IsPlain s
plain_at right w d s is =
    let l = level right w d false s is in
    let e : d + 1 ≡ s.depth = l.depth in
    record { comparison = sym l.flag; some = omega arith }

one_plain : (right : ℕ → Bool) (to : ℕ → ℕ) (o : Option Shape) (s : Shape) → one_shape right to o ≡ Some s → IsPlain s
one_plain right to None s is = cc
one_plain right to (Some a) s is = plain_at (right a.width) (to a.width) a.depth s is

two_plain : (right : Shape → Shape → Bool) (to : ℕ → ℕ → ℕ) (o p : Option Shape) (s : Shape)
    → two_shape right to false o p ≡ Some s → IsPlain s
two_plain right to None p s is = cc
two_plain right to (Some a) None s is = cc
two_plain right to (Some a) (Some b) s is = plain_at (right a b) (to a.width b.width) (max a.depth b.depth) s is

leaf_plain : (b : Bool) (r s : Shape) → IsPlain r → (if b then Some r else None) ≡ Some s → IsPlain s
leaf_plain true r s f is = subst IsPlain (some_shape r s is) f
leaf_plain false r s f is = cc

leaf_is_plain : (w : ℕ) (c : Option Word) → IsPlain (record { width = w; depth = 1; constant = c; comparison = false })
leaf_is_plain w c = record { comparison = refl; some = omega arith }

-- every comparison has a negation
compare_negation : (op : CompareOp) (x y : Expr) → (n : Expr) × Negated (E.Compare op x y) n
compare_negation C.Eq x y = (E.Compare C.Ne x y, Eq x y)
compare_negation C.Ne x y = (E.Compare C.Eq x y, Ne x y)
compare_negation C.Lt x y = (E.Compare C.Le y x, Lt x y)
compare_negation C.Le x y = (E.Compare C.Lt y x, Le x y)

signed_compare_negation : (op : SignedCompareOp) (x y : Expr) → (n : Expr) × Negated (E.SignedCompare op x y) n
signed_compare_negation S.SLt x y = (E.SignedCompare S.SLe y x, SLt x y)
signed_compare_negation S.SLe x y = (E.SignedCompare S.SLt y x, SLe x y)

abbrev pub IsNoComparison : Expr → Type 0
IsNoComparison e = (n : Expr) → Negated e n → ⊥

-- what is no node of either kind of comparison has no negation
pub no_comparison : (e : Expr)
    → ((op : CompareOp) (x y : Expr) → e ≡ E.Compare op x y → ⊥)
    → ((op : SignedCompareOp) (x y : Expr) → e ≡ E.SignedCompare op x y → ⊥)
    → IsNoComparison e
no_comparison e f g n (Eq x y) = f C.Eq x y refl
no_comparison e f g n (Ne x y) = f C.Ne x y refl
no_comparison e f g n (Lt x y) = f C.Lt x y refl
no_comparison e f g n (Le x y) = f C.Le x y refl
no_comparison e f g n (SLt x y) = g S.SLt x y refl
no_comparison e f g n (SLe x y) = g S.SLe x y refl

module _ (ws : ℕ → ℕ) where
  plain_layer : (l : Expr-F Expr) → IsNoComparison (roll-Expr l) → (s : Shape)
      → shape_step ws (map-Expr Expr (Option Shape) (shape_of ws) l) ≡ Some s
      → IsPlain s
  plain_layer (Expr-F.Const c) never s is = leaf_plain true _ s (leaf_is_plain c.width.bytes (Some c)) is
  plain_layer (Expr-F.Var v) never s is = leaf_plain _ _ s (leaf_is_plain (ws v) None) is
  plain_layer (Expr-F.Unary op a) never s is = one_plain (λ v. true) (λ v. v) (shape_of ws a) s is
  plain_layer (Expr-F.Arithmetic op a b) never s is =
      two_plain same_width left_width (shape_of ws a) (shape_of ws b) s is
  plain_layer (Expr-F.Division op a b) never s is = two_plain may_divide left_width (shape_of ws a) (shape_of ws b) s is
  plain_layer (Expr-F.SignedDivision op a b) never s is =
      two_plain may_divide_signed left_width (shape_of ws a) (shape_of ws b) s is
  plain_layer (Expr-F.Shift op a b) never s is = two_plain (λ x y. true) left_width (shape_of ws a) (shape_of ws b) s is
  plain_layer (Expr-F.Compare op a b) never s is =
      let g = compare_negation op a b in
      absurd (subst IsNoComparison (E.rolls-Compare op a b) never g.0 g.1)
  plain_layer (Expr-F.SignedCompare op a b) never s is =
      let g = signed_compare_negation op a b in
      absurd (subst IsNoComparison (E.rolls-SignedCompare op a b) never g.0 g.1)
  plain_layer (Expr-F.Extend op w a) never s is = one_plain (λ v. nat_lt v w.bytes) (λ v. w.bytes) (shape_of ws a) s is
  plain_layer (Expr-F.Part k w a) never s is = one_plain (is_part k w.bytes) (λ v. w.bytes) (shape_of ws a) s is
  plain_layer (Expr-F.Concat a b) never s is = two_plain may_join (λ v w. v + w) (shape_of ws a) (shape_of ws b) s is
  plain_layer (Expr-F.Overflow op a b) never s is = two_plain same_width (λ v w. 1) (shape_of ws a) (shape_of ws b) s is
  plain_layer (Expr-F.Count op a) never s is = one_plain (λ v. true) (λ v. 1) (shape_of ws a) s is

  plain : (e : Expr) → IsNoComparison e → (s : Shape) → shape_of ws e ≡ Some s → IsPlain s
  plain = ind-Expr (λ e. IsNoComparison e → (s : Shape) → shape_of ws e ≡ Some s → IsPlain s)
      (λ l y is. λ never s at. plain_layer l never s (sym (shape_roll ws l) ∙ at))

-- there is room for one level more where a condition is no comparison
counted : (o : Option Shape) (c : Shape) → c.depth ≡ 1
    → ((s : Shape) → o ≡ Some s → IsPlain s × (s.width ≡ c.width))
    → is_condition o ≡ true
    → is_condition (two_shape same_width (λ v w. 1) true o (Some c)) ≡ true
counted None c d f h = cc
counted (Some s) c d f h =
    let g = f s refl in
    let some : 0 < s.depth = g.0.some in
    let e : max s.depth c.depth ≡ s.depth = omega arith in
    let low : nat_lt s.depth 64 ≡ true = ap (λ b. if b then true else nat_lt s.depth 64) (sym g.0.comparison) ∙ h in
    let same : (s.width == c.width) ≡ true = eq-eqb s.width c.width g.1 in
    rw (same, e, low) refl

module _ (ws : ℕ → ℕ) where
  negation_condition : (w : ℕ) (e n : Expr) → IsNegation w e n → IsWide ws e w
      → is_condition (shape_of ws e) ≡ true → is_condition (shape_of ws n) ≡ true
  negation_condition w e n (OfComparison x y g) i h = ap is_condition (negated_shape ws e n g) ∙ h
  negation_condition w e n (OfOther x z other j v) i h =
      let c : Shape = record { width = z.width.bytes; depth = 1; constant = Some z; comparison = false } in
      let f : (s : Shape) → shape_of ws e ≡ Some s → IsPlain s × (s.width ≡ c.width) =
      λ s at. (plain ws e other s at, some_is _ _ (sym (shape_size ws e s at) ∙ i) ∙ sym j) in
      ap is_condition (shape_compare ws C.Eq e (E.Const z)
      ∙ ap (two_shape same_width (λ v w. 1) true (shape_of ws e)) (shape_const ws z))
      ∙ counted (shape_of ws e) c refl f h

pub negates : (ws : ℕ → ℕ) (w : ℕ) (e n : Expr) → IsNegation w e n → IsWide ws e w → Negates ws e n
negates ws w e n g i = record {
  size = (
      let t = total ws e w i in
      let u : Under ws =
      record { reading = everywhere; reads = everywhere_reads; env = zeros; words = zero_words ws } in
      (negation_has ws u w e n g t.0 (record { size = i; value = t.1 })).size);
  value = λ env words a at. (
      let u : Under ws = record { reading = as_c; reads = c_reads; env = env; words = words } in
      let h = negation_has ws u w e n g a (record { size = i; value = value_in_c ws env e ∙ at }) in
      (eq a 0, (sym (value_in_c ws env n) ∙ h.value, taken_other a)));
  depth = negation_depth w e n g;
  condition = negation_condition ws w e n g i;
}

-- what is compared with 0
abbrev pub IsZeroTest : ℕ → Expr → Expr → Type 0
IsZeroTest w e n = (z : Word) × (IsWord w 0 z × (n ≡ E.Compare C.Eq e (E.Const z)))

pub other_negated : {F : Type 0} (w : ℕ) (e : Expr) (r : Result Expr F) → IsNoComparison e
    → IfOk r (IsZeroTest w e) → IfOk r (IsNegation w e)
other_negated w e r never h = IfOk-weaker r (IsZeroTest w e) (IsNegation w e)
    (λ n i. subst (IsNegation w e) (sym i.1.1) (OfOther e i.0 never i.1.0.width i.1.0.value)) h
