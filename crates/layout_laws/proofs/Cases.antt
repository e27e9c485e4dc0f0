-- The values of a switch, put together by the blocks that they lead to, are its cases where they were before.
use Rattle.std.proofs.Common.{◌≡◌, ℕ, suc, ◌+◌, ◌≤◌, ◌&&◌, Bool, true, false, not, List, [], ◌∷◌, ◌++◌, Option, Some, None, refl, sym, ap, ◌∙◌, arith}
use Rattle.std.specs.Prelude.{◌==◌, cond, nat_lt}
use Rattle.std.proofs.lemmas.Bool.{and_parts}
use Rattle.std.proofs.lemmas.Bool.Decides.{nat_tests}
use Rattle.bits_core.specs.Value.{limit}
use Rattle.pcode_model.specs.Spaces.{or}
use Rattle.cmeaning.specs.declared.shape.Shape.{Shape}
use Rattle.cmeaning.specs.Valid.{is_in, are_cases_of, are_distinct, are_words}
use Rattle.blockcode.specs.declared.code.Arm.{Arm}
use Rattle.blockcode.specs.Laid.{by_value, placed, targets, values_to, without}
use Rattle.blockcode.specs.CanLay.{values_of}
use Rattle.layout_laws.proofs.Laid.{same_number}
use Rattle.pcode_laws.proofs.Rules.{neither}
use Rattle.blockcode.proofs.Arms.{rising_distinct}
use Rattle.blockcode.proofs.ByValue.{values_rise}
use Rattle.blockcode.proofs.Targets.{AreOnce, once, out, values_none}

-- the values that lead to these blocks
abbrev pub led_values : List Arm → List ℕ → List ℕ
led_values arms [] = []
led_values arms (t ∷ ts) = values_to t arms ++ led_values arms ts

-- ---- how often a value stands

abbrev count : ℕ → List ℕ → ℕ
count x [] = 0
count x (y ∷ ys) = cond (x == y) (suc (count x ys)) (count x ys)

count_append : (x : ℕ) (xs ys : List ℕ) → count x (xs ++ ys) ≡ count x xs + count x ys
count_append x [] ys = let e : count x ys ≡ 0 + count x ys = omega arith in e
count_append x (z ∷ xs) ys = by (x == z) (count_append x xs ys) where
  by : (b : Bool)
      → count x (xs ++ ys) ≡ count x xs + count x ys
      → cond b (suc (count x (xs ++ ys))) (count x (xs ++ ys)) ≡ cond b (suc (count x xs)) (count x xs) + count x ys
  by true next = omega (arith, next)
  by false next = next

out_zero : (x : ℕ) (ys : List ℕ) → is_in x ys ≡ false → count x ys ≡ 0
out_zero x [] h = refl
out_zero x (y ∷ ys) h = let parts = neither (x == y) (is_in x ys) h in
    ap (λ b. cond b (suc (count x ys)) (count x ys)) parts.0 ∙ out_zero x ys parts.1

zero_out : (x : ℕ) (ys : List ℕ) → count x ys ≡ 0 → is_in x ys ≡ false
zero_out x [] h = refl
zero_out x (y ∷ ys) h = by (x == y) h (zero_out x ys) where
  by : (b : Bool)
      → cond b (suc (count x ys)) (count x ys) ≡ 0
      → (count x ys ≡ 0 → is_in x ys ≡ false)
      → or b (is_in x ys) ≡ false
  by true h next = absurd (omega (arith, h))
  by false h next = next h

not_true : (b : Bool) → not b ≡ true → b ≡ false
not_true true h = absurd (cc)
not_true false h = refl

-- ---- distinct values stand once

counts_small : (xs : List ℕ) → are_distinct xs ≡ true → (x : ℕ) → count x xs ≤ 1
counts_small [] h x = omega arith
counts_small (y ∷ ys) h x =
    let parts = and_parts (not (is_in y ys)) (are_distinct ys) h in
    by (x == y) refl (out_zero y ys (not_true (is_in y ys) parts.0)) (counts_small ys parts.1 x) where
      by : (b : Bool) → (x == y) ≡ b
          → count y ys ≡ 0
          → count x ys ≤ 1
          → cond b (suc (count x ys)) (count x ys) ≤ 1
      by true e none next =
          let same : x ≡ y = grind (arith, nat_tests, e) in
          let here : count x ys ≡ 0 = ap (λ z. count z ys) same ∙ none in
          omega (arith, here)
      by false e none next = next

small_distinct : (xs : List ℕ) → ((x : ℕ) → count x xs ≤ 1) → are_distinct xs ≡ true
small_distinct [] h = refl
small_distinct (y ∷ ys) h =
    let here : suc (count y ys) ≡ count y (y ∷ ys) =
    sym (ap (λ b. cond b (suc (count y ys)) (count y ys)) (same_number y)) in
    let none : count y ys ≡ 0 = omega (arith, here, h y) in
    ap (λ b. not b && are_distinct ys) (zero_out y ys none)
    ∙ small_distinct ys (λ x. fewer x (x == y) (h x)) where
      fewer : (x : ℕ) (b : Bool) → cond b (suc (count x ys)) (count x ys) ≤ 1 → count x ys ≤ 1
      fewer x true few = omega (arith, few)
      fewer x false few = few

-- ---- the values by their blocks

led_kept : (a : Arm) (rest : List Arm) (ts : List ℕ)
    → is_in a.to ts ≡ false
    → led_values (a ∷ rest) ts ≡ led_values rest ts
led_kept a rest [] h = refl
led_kept a rest (t ∷ ts) h =
    let parts = neither (a.to == t) (is_in a.to ts) h in
    ap (λ b. cond b (a.value ∷ values_to t rest) (values_to t rest) ++ led_values (a ∷ rest) ts) parts.0
    ∙ ap (λ vs. values_to t rest ++ vs) (led_kept a rest ts parts.1)

without_none : (t : ℕ) (ts : List ℕ) → is_in t ts ≡ false → without t ts ≡ ts
without_none t [] h = refl
without_none t (u ∷ ts) h =
    let parts = neither (t == u) (is_in t ts) h in
    let other : (u == t) ≡ false = grind (arith, nat_tests, parts.0) in
    ap (λ b. cond b (without t ts) (u ∷ without t ts)) other ∙ ap (λ us. u ∷ us) (without_none t ts parts.1)

-- those of a block apart
count_apart : (x t : ℕ) (arms : List Arm) (ts : List ℕ)
    → AreOnce ts
    → (is_in t ts ≡ false → values_to t arms ≡ [])
    → count x (values_to t arms) + count x (led_values arms (without t ts)) ≡ count x (led_values arms ts)
count_apart x t arms [] each none = ap (λ vs. count x vs + 0) (none refl)
count_apart x t arms (u ∷ ts) each none = by (u == t) refl (count_apart x t arms ts each.1) where
  by : (b : Bool) → (u == t) ≡ b
      → ((is_in t ts ≡ false → values_to t arms ≡ [])
      → count x (values_to t arms) + count x (led_values arms (without t ts)) ≡ count x (led_values arms ts))
      → count x (values_to t arms) + count x (led_values arms (cond b (without t ts) (u ∷ without t ts)))
      ≡ count x (values_to u arms ++ led_values arms ts)
  by true e next =
      let same : u ≡ t = grind (arith, nat_tests, e) in
      let gone : is_in t ts ≡ false = ap (λ z. is_in z ts) (sym same) ∙ each.0 in
      ap (λ us. count x (values_to t arms) + count x (led_values arms us)) (without_none t ts gone)
      ∙ ap (λ z. count x (values_to z arms) + count x (led_values arms ts)) (sym same)
      ∙ sym (count_append x (values_to u arms) (led_values arms ts))
  by false e next =
      let other : (t == u) ≡ false = grind (arith, nat_tests, e) in
      let rest = next (λ h. none (ap (λ b. or b (is_in t ts)) other ∙ h)) in
      omega (
        arith,
        rest,
        count_append x (values_to u arms) (led_values arms (without t ts)),
        count_append x (values_to u arms) (led_values arms ts),
      )

count_led : (x : ℕ) (arms : List Arm) → count x (led_values arms (targets arms)) ≡ count x (values_of arms)
count_led x [] = refl
count_led x (a ∷ rest) =
    let ts = without a.to (targets rest) in
    let vs = values_to a.to rest in
    ap (λ b. count x (cond b (a.value ∷ vs) vs ++ led_values (a ∷ rest) ts)) (same_number a.to)
    ∙ ap (λ us. count x (a.value ∷ (vs ++ us))) (led_kept a rest ts (out a.to (targets rest)))
    ∙ ap (λ n. cond (x == a.value) (suc n) n)
    (count_append x vs (led_values rest ts)
    ∙ count_apart x a.to rest (targets rest) (once rest) (values_none a.to rest)
    ∙ count_led x rest)

-- ---- words

words_append : (w : ℕ) (xs ys : List ℕ) → are_words w xs ≡ true → are_words w ys ≡ true → are_words w (xs ++ ys) ≡ true
words_append w [] ys h g = g
words_append w (x ∷ xs) ys h g = let parts = and_parts (nat_lt x (limit w)) (are_words w xs) h in
    ap (λ b. b && are_words w (xs ++ ys)) parts.0 ∙ words_append w xs ys parts.1 g

words_to : (w t : ℕ) (arms : List Arm) → are_words w (values_of arms) ≡ true → are_words w (values_to t arms) ≡ true
words_to w t [] h = refl
words_to w t (a ∷ rest) h =
    let parts = and_parts (nat_lt a.value (limit w)) (are_words w (values_of rest)) h in
    by (a.to == t) parts.0 (words_to w t rest parts.1) where
      by : (b : Bool)
          → nat_lt a.value (limit w) ≡ true
          → are_words w (values_to t rest) ≡ true
          → are_words w (cond b (a.value ∷ values_to t rest) (values_to t rest)) ≡ true
      by true here next = ap (λ b. b && are_words w (values_to t rest)) here ∙ next
      by false here next = next

words_led : (w : ℕ) (arms : List Arm) (ts : List ℕ)
    → are_words w (values_of arms) ≡ true
    → are_words w (led_values arms ts) ≡ true
words_led w arms [] h = refl
words_led w arms (t ∷ ts) h =
    words_append w (values_to t arms) (led_values arms ts) (words_to w t arms h) (words_led w arms ts h)

words_placed : (w : ℕ) (a : Arm) (xs : List Arm)
    → nat_lt a.value (limit w) ≡ true
    → are_words w (values_of xs) ≡ true
    → are_words w (values_of (placed a xs)) ≡ true
words_placed w a [] here h = ap (λ b. b && true) here
words_placed w a (x ∷ xs) here h =
    let parts = and_parts (nat_lt x.value (limit w)) (are_words w (values_of xs)) h in
    by (nat_lt x.value a.value) parts.0 (words_placed w a xs here parts.1) where
      by : (b : Bool)
          → nat_lt x.value (limit w) ≡ true
          → are_words w (values_of (placed a xs)) ≡ true
          → are_words w (values_of (cond b (x ∷ placed a xs) (a ∷ x ∷ xs))) ≡ true
      by true first next = ap (λ b. b && are_words w (values_of (placed a xs))) first ∙ next
      by false first next = ap (λ b. b && are_words w (values_of (x ∷ xs))) here ∙ h

words_kept : (w : ℕ) (arms : List Arm) → are_words w (values_of arms) ≡ true → are_words w (values_of (by_value arms)) ≡ true
words_kept w [] h = refl
words_kept w (a ∷ rest) h = let parts = and_parts (nat_lt a.value (limit w)) (are_words w (values_of rest)) h in
    words_placed w a (by_value rest) parts.0 (words_kept w rest parts.1)

-- Values that may be the cases of a switch may be so in their order.
pub cases_kept : (arms : List Arm) (o : Option Shape)
    → are_cases_of (values_of arms) o ≡ true
    → are_cases_of (values_of (by_value arms)) o ≡ true
cases_kept arms None h = absurd (cc)
cases_kept arms (Some s) h =
    let parts = and_parts (are_distinct (values_of arms)) (are_words s.width (values_of arms)) h in
    let sorted = values_of (by_value arms) in
    ap (λ b. b && are_words s.width sorted) (rising_distinct sorted (values_rise arms parts.0))
    ∙ words_kept s.width arms parts.1

-- Values that may be the cases of a switch may be so by their blocks too.
pub cases_led : (arms : List Arm) (o : Option Shape)
    → are_cases_of (values_of arms) o ≡ true
    → are_cases_of (led_values arms (targets arms)) o ≡ true
cases_led arms None h = h
cases_led arms (Some s) h =
    let parts = and_parts (are_distinct (values_of arms)) (are_words s.width (values_of arms)) h in
    let few = counts_small (values_of arms) parts.0 in
    ap (λ b. b && are_words s.width (led_values arms (targets arms)))
    (small_distinct (led_values arms (targets arms)) (λ x. omega (arith, few x, count_led x arms)))
    ∙ words_led s.width arms (targets arms) parts.1
