-- The cases of a switch by their values: what of them doesn't depend on the order, and that values that differ rise.
use Rattle.std.proofs.Common.{◌≡◌, ℕ, ◌<◌, Bool, true, false, not, List, [], ◌∷◌, refl, ap, ◌∙◌, Option, Some, None, arith}
use Rattle.std.specs.Prelude.{◌==◌, cond, nat_lt}
use Rattle.std.specs.List.{AllByRecursion}
use Rattle.std.proofs.lemmas.Bool.{and_parts}
use Rattle.std.proofs.lemmas.Bool.Decides.{nat_tests}
use Rattle.pcode_model.specs.Spaces.{or}
use Rattle.pcode_laws.proofs.Rules.{neither}
use Rattle.cmeaning.specs.declared.tree.Expr.{Expr}
use Rattle.cmeaning.specs.Valid.{is_in, are_distinct}
use Rattle.cmeaning.specs.Value.{value_of}
use Rattle.blockcode.specs.declared.code.Arm.{Arm}
use Rattle.blockcode.specs.declared.code.Exit.TheVariants as X
use Rattle.blockcode.specs.CanLay.{values_of}
use Rattle.blockcode.specs.Laid.{arms_name, by_value, placed}
use Rattle.blockcode.specs.Rising.{AreRising}
use Rattle.blockcode.specs.Run.{CodeState, chosen, enters, enters_by, leave}

or_turned : (a b c : Bool) → or a (or b c) ≡ or b (or a c)
or_turned true true c = refl
or_turned true false c = refl
or_turned false true c = refl
or_turned false false c = refl

-- ---- a case among others

module _ (a : Arm) where
  value_placed : (v : ℕ) (xs : List Arm) → is_in v (values_of (placed a xs)) ≡ is_in v (values_of (a ∷ xs))
  value_placed v [] = refl
  value_placed v (x ∷ xs) = by (nat_lt x.value a.value) (value_placed v xs) where
    by : (b : Bool)
        → is_in v (values_of (placed a xs)) ≡ is_in v (values_of (a ∷ xs))
        → is_in v (values_of (cond b (x ∷ placed a xs) (a ∷ x ∷ xs))) ≡ is_in v (values_of (a ∷ x ∷ xs))
    by true next = ap (or (v == x.value)) next ∙ or_turned (v == x.value) (v == a.value) (is_in v (values_of xs))
    by false next = refl

  name_placed : (b : ℕ) (xs : List Arm) → arms_name (placed a xs) b ≡ arms_name (a ∷ xs) b
  name_placed b [] = refl
  name_placed b (x ∷ xs) = by (nat_lt x.value a.value) (name_placed b xs) where
    by : (c : Bool)
        → arms_name (placed a xs) b ≡ arms_name (a ∷ xs) b
        → arms_name (cond c (x ∷ placed a xs) (a ∷ x ∷ xs)) b ≡ arms_name (a ∷ x ∷ xs) b
    by true next = ap (or (x.to == b)) next ∙ or_turned (x.to == b) (a.to == b) (arms_name xs b)
    by false next = refl

  -- Of cases of one value the first one is still the first one.
  chosen_placed : (s : CodeState) (w : ℕ) (xs : List Arm) → chosen (placed a xs) s w ≡ chosen (a ∷ xs) s w
  chosen_placed s w [] = refl
  chosen_placed s w (x ∷ xs) = by (nat_lt x.value a.value) refl (chosen_placed s w xs) where
    turned : (c d : Bool) → (x.value == w) ≡ c → (a.value == w) ≡ d → nat_lt x.value a.value ≡ true
        → cond c (enters x.to s) (cond d (enters a.to s) (chosen xs s w))
        ≡ cond d (enters a.to s) (cond c (enters x.to s) (chosen xs s w))
    turned true true e f less =
        let same : x.value ≡ w = grind (arith, nat_tests, e) in
        let also : a.value ≡ w = grind (arith, nat_tests, f) in
        absurd (grind (arith, nat_tests, same, also, less))
    turned true false e f less = refl
    turned false true e f less = refl
    turned false false e f less = refl

    by : (b : Bool) → nat_lt x.value a.value ≡ b
        → chosen (placed a xs) s w ≡ chosen (a ∷ xs) s w
        → chosen (cond b (x ∷ placed a xs) (a ∷ x ∷ xs)) s w ≡ chosen (a ∷ x ∷ xs) s w
    by true less next =
        ap (λ t. cond (x.value == w) (enters x.to s) t) next
        ∙ turned (x.value == w) (a.value == w) refl refl less
    by false less next = refl

  above_placed : (n : ℕ) (xs : List Arm)
      → n < a.value
      → AllByRecursion (λ y. n < y) (values_of xs)
      → AllByRecursion (λ y. n < y) (values_of (placed a xs))
  above_placed n [] less above = (less, tt)
  above_placed n (x ∷ xs) less above = by (nat_lt x.value a.value) (above_placed n xs less above.1) where
    by : (b : Bool)
        → AllByRecursion (λ y. n < y) (values_of (placed a xs))
        → AllByRecursion (λ y. n < y) (values_of (cond b (x ∷ placed a xs) (a ∷ x ∷ xs)))
    by true next = (above.0, next)
    by false next = (less, above)

  rising_placed : (xs : List Arm)
      → is_in a.value (values_of xs) ≡ false
      → AreRising (values_of xs)
      → AreRising (values_of (placed a xs))
  rising_placed [] out rise = (tt, tt)
  rising_placed (x ∷ xs) out rise =
      let other = neither (a.value == x.value) (is_in a.value (values_of xs)) out in
      by (nat_lt x.value a.value) refl (rising_placed xs other.1 rise.1)
    where
      far : (values : List ℕ)
          → a.value < x.value
          → AllByRecursion (λ y. x.value < y) values
          → AllByRecursion (λ y. a.value < y) values
      far [] less above = tt
      far (y ∷ values) less above =
          let here : x.value < y = above.0 in
          (omega (arith, less, here), far values less above.1)

      by : (b : Bool) → nat_lt x.value a.value ≡ b
          → AreRising (values_of (placed a xs))
          → AreRising (values_of (cond b (x ∷ placed a xs) (a ∷ x ∷ xs)))
      by true e next =
          let less : x.value < a.value = grind (arith, nat_tests, e) in
          (above_placed x.value xs less rise.0, next)
      by false e next =
          let other = neither (a.value == x.value) (is_in a.value (values_of xs)) out in
          let less : a.value < x.value = grind (arith, nat_tests, e, other.0) in
          ((less, far (values_of xs) less rise.0), rise)

-- ---- all cases

pub value_kept : (v : ℕ) (arms : List Arm) → is_in v (values_of (by_value arms)) ≡ is_in v (values_of arms)
value_kept v [] = refl
value_kept v (a ∷ rest) = value_placed a v (by_value rest) ∙ ap (or (v == a.value)) (value_kept v rest)

pub name_kept : (b : ℕ) (arms : List Arm) → arms_name (by_value arms) b ≡ arms_name arms b
name_kept b [] = refl
name_kept b (a ∷ rest) = name_placed a b (by_value rest) ∙ ap (or (a.to == b)) (name_kept b rest)

chosen_kept : (arms : List Arm) (s : CodeState) (w : ℕ) → chosen (by_value arms) s w ≡ chosen arms s w
chosen_kept [] s w = refl
chosen_kept (a ∷ rest) s w =
    chosen_placed a s w (by_value rest)
    ∙ ap (λ t. cond (a.value == w) (enters a.to s) t) (chosen_kept rest s w)

-- A switch leads where it does with its cases by their values.
pub switch_kept : (ws : ℕ → ℕ) (e : Expr) (arms : List Arm) (s : CodeState)
    → leave ws (X.Switch e (by_value arms)) s ≡ leave ws (X.Switch e arms) s
switch_kept ws e arms s = by (value_of ws s.local.env e) where
  by : (o : Option ℕ) → enters_by o s (chosen (by_value arms) s) ≡ enters_by o s (chosen arms s)
  by None = refl
  by (Some w) = chosen_kept arms s w

-- Values that differ rise where the cases stand by them.
pub values_rise : (arms : List Arm) → are_distinct (values_of arms) ≡ true → AreRising (values_of (by_value arms))
values_rise [] each = tt
values_rise (a ∷ rest) each =
    let parts = and_parts (not (is_in a.value (values_of rest))) (are_distinct (values_of rest)) each in
    let out : is_in a.value (values_of (by_value rest)) ≡ false =
    value_kept a.value rest ∙ absent (is_in a.value (values_of rest)) parts.0 in
    rising_placed a (by_value rest) out (values_rise rest parts.1) where
      absent : (b : Bool) → not b ≡ true → b ≡ false
      absent true h = absurd (cc)
      absent false h = refl
