-- Runs that stand one behind the other: a byte lies in one of them, and those below a number are the ones in front.
use Rattle.std.proofs.Common.{◌≡◌, ◌∙◌, ◌-◌, ◌^◌, Bool, true, false, List, [], ◌∷◌, refl, sym, ap, subst, inl, inr, arith}
use Rattle.std.specs.Prelude.{cond, ℤ, pos, negsuc, ◌+ℤ◌, ◌-ℤ◌, ◌≤ℤ◌, ◌<ℤ◌, unsigned_abs}
use Rattle.std.proofs.lemmas.Int.{ints}
use Rattle.pcode_model.specs.declared.frame.FrameVariable.{FrameVariable}
use Rattle.pcode_model.specs.Flow.{IsIn}
use Rattle.frame_facts.specs.Listed.{InOrderBy, IsVariableBefore}
use Rattle.frame_classes.specs.declared.runs.Run.{Run}
use Rattle.frame_classes.specs.Runs.{AreApart, Rise}
use Rattle.frame_classes.specs.FrameVariables.{is_below, limit, variable, variables_of}
use Rattle.frame_classes.proofs.Order.{in_order_from}

abbrev pub IsInRun : Run → ℤ → Type 0
IsInRun r o = (r.begin ≤ℤ o) × (o <ℤ r.end)

pub rest_apart : (n : ℤ) (runs : List Run) → Rise n runs → AreApart runs
rest_apart n [] up = tt
rest_apart n (r ∷ runs) up = up.1

-- each has bytes
pub has_bytes : (runs : List Run) → AreApart runs → (r : Run) → IsIn r runs → r.begin <ℤ r.end
has_bytes [] up r is = absurd is
has_bytes (x ∷ runs) up r (inl e) = subst (λ (y : Run). y.begin <ℤ y.end) (sym e) up.0
has_bytes (x ∷ runs) up r (inr is) = has_bytes runs (rest_apart x.end runs up.1) r is

past : (n : ℤ) (runs : List Run) → Rise n runs → (r : Run) → IsIn r runs → n ≤ℤ r.begin
past n [] up r is = absurd is
past n (x ∷ runs) up r (inl e) = subst (λ (y : Run). n ≤ℤ y.begin) (sym e) up.0
past n (x ∷ runs) up r (inr is) = let h = past x.end runs up.1.1 r is in omega (arith, ints, h, up.0, up.1.0)

-- those behind a run begin where it ends or later
behind : (x : Run) (runs : List Run) → AreApart (x ∷ runs) → (r : Run) → IsIn r runs → x.end ≤ℤ r.begin
behind x runs up r is = past x.end runs up.1 r is

-- A byte lies in one run.
pub one_run : (runs : List Run)
    → AreApart runs
    → (r s : Run)
    → IsIn r runs
    → IsIn s runs
    → (o : ℤ)
    → IsInRun r o
    → IsInRun s o
    → r ≡ s
one_run [] up r s is also o in_r in_s = absurd is
one_run (x ∷ runs) up r s (inl e) (inl f) o in_r in_s = e ∙ sym f
one_run (x ∷ runs) up r s (inl e) (inr also) o in_r in_s =
    let h = behind x runs up s also in
    let g : r.end ≡ x.end = ap (λ (y : Run). y.end) e in
    absurd (omega (arith, ints, h, g, in_r.1, in_s.0))
one_run (x ∷ runs) up r s (inr is) (inl f) o in_r in_s =
    let h = behind x runs up r is in
    let g : s.end ≡ x.end = ap (λ (y : Run). y.end) f in
    absurd (omega (arith, ints, h, g, in_s.1, in_r.0))
one_run (x ∷ runs) up r s (inr is) (inr also) o in_r in_s =
    one_run runs (rest_apart x.end runs up.1) r s is also o in_r in_s

-- ---- a run as a variable

pub variable_ends : (r : Run) → r.begin <ℤ r.end → ((variable r).offset +ℤ pos (variable r).size) ≡ r.end
variable_ends r some = by (r.end -ℤ r.begin) refl where
  by : (d : ℤ) → r.end -ℤ r.begin ≡ d → (r.begin +ℤ pos (unsigned_abs d)) ≡ r.end
  by (pos n) e = omega (arith, ints, e)
  by (negsuc n) e = absurd (omega (arith, ints, e, some))

module _ (escapes : List ℤ) where
  abbrev below : Run → Bool
  below r = is_below escapes r

  abbrev Found : FrameVariable → List Run → Type 0
  Found v rs = (r : Run) × (IsIn r rs × ((below r ≡ true) × (v ≡ variable r)))

  pub in_variables : (runs : List Run) (v : FrameVariable)
      → IsIn v (variables_of escapes runs)
      → (r : Run) × (IsIn r runs × ((is_below escapes r ≡ true) × (v ≡ variable r)))
  in_variables [] v is = absurd is
  in_variables (x ∷ runs) v is = by (below x) refl is (in_variables runs v) where
    later : Found v runs → Found v (x ∷ runs)
    later found = (found.0, (inr found.1.0, found.1.1))

    by : (b : Bool)
        → below x ≡ b
        → IsIn v (cond b (variable x ∷ variables_of escapes runs) (variables_of escapes runs))
        → (IsIn v (variables_of escapes runs) → Found v runs)
        → Found v (x ∷ runs)
    by true e (inl f) rest = (x, (inl refl, (e, f)))
    by true e (inr is) rest = later (rest is)
    by false e is rest = later (rest is)

  pub variable_in : (runs : List Run) (r : Run)
      → IsIn r runs
      → is_below escapes r ≡ true
      → IsIn (variable r) (variables_of escapes runs)
  variable_in [] r is low = absurd is
  variable_in (x ∷ runs) r is low = by (below x) refl is (λ h. variable_in runs r h low) where
    by : (b : Bool)
        → below x ≡ b
        → IsIn r (x ∷ runs)
        → (IsIn r runs → IsIn (variable r) (variables_of escapes runs))
        → IsIn (variable r) (cond b (variable x ∷ variables_of escapes runs) (variables_of escapes runs))
    by true e (inl f) rest = inl (ap (λ y. variable y) f)
    by true e (inr is) rest = inr (rest is)
    by false e (inl f) rest = absurd (let g : true ≡ false = sym (ap below (sym f) ∙ low) ∙ e in cc)
    by false e (inr is) rest = rest is

  pub variables_rise : (runs : List Run) → AreApart runs → InOrderBy IsVariableBefore (variables_of escapes runs)
  variables_rise [] up = tt
  variables_rise (x ∷ runs) up = by (below x) (variables_rise runs (rest_apart x.end runs up.1)) where
    after : (v : FrameVariable) → IsIn v (variables_of escapes runs) → IsVariableBefore (variable x) v
    after v is =
        let f = in_variables runs v is in
        let h = behind x runs up f.0 f.1.0 in
        let e : v.offset ≡ f.0.begin = ap (λ (y : FrameVariable). y.offset) f.1.1.1 in
        omega (arith, ints, h, e, up.0)

    by : (b : Bool)
        → InOrderBy IsVariableBefore (variables_of escapes runs)
        → InOrderBy IsVariableBefore (cond b (variable x ∷ variables_of escapes runs) (variables_of escapes runs))
    by true rest = in_order_from IsVariableBefore (variable x) (variables_of escapes runs) after rest
    by false rest = rest

  -- ---- the limit

  -- a run behind one that isn't below isn't either
  not_behind : (x r : Run) → x.end ≤ℤ r.end → below x ≡ false → below r ≡ true → ⊥
  not_behind x r le not low = by escapes not low where
    by : (es : List ℤ) → is_below es x ≡ false → is_below es r ≡ true → ⊥
    by [] e f = absurd (cc)
    by (least ∷ es) e f = grind (arith, ints)

  module _ (o : ℤ) (small : o <ℤ pos (2 ^ 63 - 1)) where
    limit_past : (n : ℤ) (runs : List Run) → Rise n runs → o <ℤ n → o <ℤ limit escapes runs
    limit_past n [] up less = small
    limit_past n (x ∷ runs) up less =
        by (below x) (limit_past x.end runs up.1.1 (omega (arith, ints, less, up.0, up.1.0)))
      where
        by : (b : Bool) → o <ℤ limit escapes runs → o <ℤ cond b (limit escapes runs) x.begin
        by true rest = rest
        by false rest = omega (arith, ints, less, up.0)

    -- What lies in a run below stands before the limit,
    pub within_limit : (runs : List Run)
        → AreApart runs
        → (r : Run)
        → IsIn r runs
        → IsInRun r o
        → below r ≡ true
        → o <ℤ limit escapes runs
    within_limit [] up r is in_r low = absurd is
    within_limit (x ∷ runs) up r is in_r low =
        by (below x) refl is (λ h. within_limit runs (rest_apart x.end runs up.1) r h in_r low)
      where
        by : (b : Bool)
            → below x ≡ b
            → IsIn r (x ∷ runs)
            → (IsIn r runs → o <ℤ limit escapes runs)
            → o <ℤ cond b (limit escapes runs) x.begin
        by true e (inl f) rest =
            let g : r.end ≡ x.end = ap (λ (y : Run). y.end) f in
            limit_past x.end runs up.1 (omega (arith, ints, g, in_r.1))
        by true e (inr is) rest = rest is
        by false e (inl f) rest = absurd (let g : true ≡ false = sym (ap below (sym f) ∙ low) ∙ e in cc)
        by false e (inr is) rest =
            let h = behind x runs up r is in
            absurd (not_behind x r (omega (arith, ints, h, in_r.0, in_r.1)) e low)

    -- and what stands before the limit lies in such a run.
    pub limit_within : (runs : List Run)
        → AreApart runs
        → (r : Run)
        → IsIn r runs
        → IsInRun r o
        → o <ℤ limit escapes runs
        → below r ≡ true
    limit_within [] up r is in_r less = absurd is
    limit_within (x ∷ runs) up r is in_r less =
        by (below x) refl is less (λ h m. limit_within runs (rest_apart x.end runs up.1) r h in_r m)
      where
        by : (b : Bool)
            → below x ≡ b
            → IsIn r (x ∷ runs)
            → o <ℤ cond b (limit escapes runs) x.begin
            → (IsIn r runs → o <ℤ limit escapes runs → below r ≡ true)
            → below r ≡ true
        by true e (inl f) less rest = ap below f ∙ e
        by true e (inr is) less rest = rest is less
        by false e (inl f) less rest =
            let g : r.begin ≡ x.begin = ap (λ (y : Run). y.begin) f in
            absurd (omega (arith, ints, g, less, in_r.0))
        by false e (inr is) less rest =
            let h = behind x runs up r is in
            absurd (omega (arith, ints, h, less, in_r.0, up.0))
