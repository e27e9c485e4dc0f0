-- The value of a comparison, by the arc on which it holds.
use Rattle.std.proofs.Common.{◌≡◌, ℕ, ◌<◌, Bool, true, false, not, if◌then◌else◌, sym, ap, ◌∙◌, subst, arith}
use Rattle.bits_core.specs.Value.{limit, half, flag, add, sub}
use Rattle.bits_core.proofs.Limits.{limit_pos, halves}
use Rattle.laws.proofs.Compare.{eq_comm, ne_comm}
use Rattle.laws.proofs.Sums.{add_word}
use Rattle.word_sets.specs.declared.comparisons.Order.{Order}
use Rattle.word_sets.specs.declared.comparisons.Order.TheVariants.{Equal, NotEqual, Less, LessEqual, SignedLess, SignedLessEqual}
use Rattle.word_sets.specs.declared.comparisons.Comparison.{Comparison}
use Rattle.word_sets.specs.Turns.{in_arc}
use Rattle.word_sets.specs.Comparing.{compared, comparison_value, in_strict, least_of}
use Rattle.word_sets.proofs.Arcs.{arc-sub, add-sub_one, eq_arc, ne_arc, lt_arc, gt_arc, le_arc, ge_arc, slt_arc, sgt_arc, sle_arc, sge_arc}

module _ (w m k v : ℕ) (some : 0 < w) (p : m < limit w) (q : k < limit w) (r : v < limit w) where
  -- the word that is compared
  abbrev y : ℕ
  y = add w v m

  zero : 0 < limit w
  zero = limit_pos w

  mid : half w < limit w
  mid = omega (arith, halves w some)

  after_is : add w (sub w k m) 1 ≡ sub w (add w k 1) m
  after_is = add-sub_one w k m some q p

  y_below : y < limit w
  y_below = add_word w v m

  next_below : add w k 1 < limit w
  next_below = add_word w k 1

  -- the constant alone
  alone : in_arc (sub w k m) (add w (sub w k m) 1) v ≡ in_arc k (add w k 1) y
  alone = ap (λ n. in_arc (sub w k m) n v) after_is ∙ arc-sub w k (add w k 1) m v q next_below p r

  below : (least : ℕ) → least < limit w → in_arc (sub w least m) (sub w k m) v ≡ in_arc least k y
  below least h = arc-sub w least k m v h q p r

  above : (least : ℕ) → least < limit w → in_arc (add w (sub w k m) 1) (sub w least m) v ≡ in_arc (add w k 1) least y
  above least h = ap (λ n. in_arc n (sub w least m) v) after_is ∙ arc-sub w (add w k 1) least m v next_below h p r

  equal_by : (first : Bool)
      → flag (in_arc (sub w k m) (add w (sub w k m) 1) v)
      ≡ (if first then compared Equal w y k else compared Equal w k y)
  equal_by true = ap flag alone ∙ eq_arc w k y some q y_below
  equal_by false = ap flag alone ∙ eq_arc w k y some q y_below ∙ eq_comm y k

  not_equal_by : (first : Bool)
      → flag (not (in_arc (sub w k m) (add w (sub w k m) 1) v))
      ≡ (if first then compared NotEqual w y k else compared NotEqual w k y)
  not_equal_by true = ap (λ b. flag (not b)) alone ∙ ne_arc w k y some q y_below
  not_equal_by false = ap (λ b. flag (not b)) alone ∙ ne_arc w k y some q y_below ∙ ne_comm y k

  less_by : (first : Bool)
      → flag (in_strict first (sub w 0 m) (sub w k m) (add w (sub w k m) 1) v)
      ≡ (if first then compared Less w y k else compared Less w k y)
  less_by true = ap flag (below 0 zero) ∙ lt_arc w k y some q y_below
  less_by false = ap flag (above 0 zero) ∙ gt_arc w k y some q y_below

  less_equal_by : (first : Bool)
      → flag (not (in_strict (not first) (sub w 0 m) (sub w k m) (add w (sub w k m) 1) v))
      ≡ (if first then compared LessEqual w y k else compared LessEqual w k y)
  less_equal_by true = ap (λ b. flag (not b)) (above 0 zero) ∙ le_arc w k y some q y_below
  less_equal_by false = ap (λ b. flag (not b)) (below 0 zero) ∙ ge_arc w k y some q y_below

  signed_less_by : (first : Bool)
      → flag (in_strict first (sub w (half w) m) (sub w k m) (add w (sub w k m) 1) v)
      ≡ (if first then compared SignedLess w y k else compared SignedLess w k y)
  signed_less_by true = ap flag (below (half w) mid) ∙ slt_arc w k y some q y_below
  signed_less_by false = ap flag (above (half w) mid) ∙ sgt_arc w k y some q y_below

  signed_less_equal_by : (first : Bool)
      → flag (not (in_strict (not first) (sub w (half w) m) (sub w k m) (add w (sub w k m) 1) v))
      ≡ (if first then compared SignedLessEqual w y k else compared SignedLessEqual w k y)
  signed_less_equal_by true = ap (λ b. flag (not b)) (above (half w) mid) ∙ sle_arc w k y some q y_below
  signed_less_equal_by false = ap (λ b. flag (not b)) (below (half w) mid) ∙ sge_arc w k y some q y_below

-- where the least word, the constant and the word after it are moved back to
pub record Moved (t : Comparison) (start at after : ℕ) : Type 0 where
  pub start_is : start ≡ sub t.constant.width.bytes (least_of t.order t.constant.width.bytes) t.moved.value
  pub at_is : at ≡ sub t.constant.width.bytes t.constant.value t.moved.value
  pub after_is : after ≡ add t.constant.width.bytes at 1

-- from the words that code computes
pub moved_by : (t : Comparison) (least least_width start at at_width after : ℕ)
    → least ≡ least_of t.order t.constant.width.bytes
    → least_width ≡ t.constant.width.bytes
    → start ≡ sub least_width least t.moved.value
    → at ≡ sub t.constant.width.bytes t.constant.value t.moved.value
    → at_width ≡ t.constant.width.bytes
    → after ≡ add at_width at 1
    → Moved t start at after
moved_by t least least_width start at at_width after e f s a g n = record {
  start_is = s ∙ ap (λ k. sub k least t.moved.value) f ∙ ap (λ k. sub t.constant.width.bytes k t.moved.value) e;
  at_is = a;
  after_is = n ∙ ap (λ k. add k at 1) g;
}

module _ (t : Comparison) (v : ℕ) (r : v < limit t.constant.width.bytes) where
  abbrev width : ℕ
  width = t.constant.width.bytes

  moved_below : t.moved.value < limit width
  moved_below = subst (λ n. t.moved.value < limit n) t.same t.moved.below

  by_order : (o : Order) → t.order ≡ o
      → (if t.word_first then compared o width
      (add width v t.moved.value) t.constant.value else compared o width t.constant.value
      (add width v t.moved.value))
      ≡ comparison_value t v
  by_order o e =
      ap (λ o'. if t.word_first then compared o' width
      (add width v t.moved.value) t.constant.value else compared o' width t.constant.value
      (add width v t.moved.value)) (sym e)

  module _ (start at after : ℕ) (h : Moved t start at after) where
    alone_is : in_arc at after v ≡ in_arc (sub width t.constant.value t.moved.value)
        (add width (sub width t.constant.value t.moved.value) 1) v
    alone_is =
        ap (λ n. in_arc at n v) h.after_is
        ∙ ap (λ n. in_arc n (add width n 1) v) h.at_is

    strict_is : (first : Bool) (o : Order) → t.order ≡ o
        → in_strict first start at after v
        ≡ in_strict first (sub width (least_of o width) t.moved.value) (sub width t.constant.value t.moved.value)
        (add width (sub width t.constant.value t.moved.value) 1) v
    strict_is first o e =
        ap (λ n. in_strict first start at n v) h.after_is
        ∙ ap (λ n. in_strict first start n (add width n 1) v) h.at_is
        ∙ ap (λ n. in_strict first n (sub width t.constant.value t.moved.value)
        (add width (sub width t.constant.value t.moved.value) 1) v)
        (h.start_is ∙ ap (λ o'. sub width (least_of o' width) t.moved.value) e)

    pub equal_value : t.order ≡ Equal → flag (in_arc at after v) ≡ comparison_value t v
    equal_value e =
        ap flag alone_is
        ∙ equal_by width t.moved.value t.constant.value v t.constant.width.from moved_below t.constant.below r
        t.word_first
        ∙ by_order Equal e

    pub not_equal_value : t.order ≡ NotEqual → flag (not (in_arc at after v)) ≡ comparison_value t v
    not_equal_value e =
        ap (λ b. flag (not b)) alone_is
        ∙ not_equal_by width t.moved.value t.constant.value v t.constant.width.from moved_below t.constant.below r
        t.word_first
        ∙ by_order NotEqual e

    pub less_value : t.order ≡ Less → flag (in_strict t.word_first start at after v) ≡ comparison_value t v
    less_value e =
        ap flag (strict_is t.word_first Less e)
        ∙ less_by width t.moved.value t.constant.value v t.constant.width.from moved_below t.constant.below r
        t.word_first
        ∙ by_order Less e

    pub less_equal_value : t.order ≡ LessEqual
        → flag (not (in_strict (not t.word_first) start at after v)) ≡ comparison_value t v
    less_equal_value e =
        ap (λ b. flag (not b)) (strict_is (not t.word_first) LessEqual e)
        ∙ less_equal_by width t.moved.value t.constant.value v t.constant.width.from moved_below t.constant.below r
        t.word_first
        ∙ by_order LessEqual e

    pub signed_less_value : t.order ≡ SignedLess → flag (in_strict t.word_first start at after v) ≡ comparison_value t v
    signed_less_value e =
        ap flag (strict_is t.word_first SignedLess e)
        ∙ signed_less_by width t.moved.value t.constant.value v t.constant.width.from moved_below t.constant.below r
        t.word_first
        ∙ by_order SignedLess e

    pub signed_less_equal_value : t.order ≡ SignedLessEqual
        → flag (not (in_strict (not t.word_first) start at after v)) ≡ comparison_value t v
    signed_less_equal_value e =
        ap (λ b. flag (not b)) (strict_is (not t.word_first) SignedLessEqual e)
        ∙ signed_less_equal_by width t.moved.value t.constant.value v t.constant.width.from moved_below
        t.constant.below r t.word_first
        ∙ by_order SignedLessEqual e
