-- Cases collected by their blocks are the arms of the switch.
use Rattle.std.proofs.Common.{◌≡◌, ℕ, zero, suc, ◌<◌, ◌==◌, Bool, true, false, List, [], ◌∷◌, ◌++◌, length, map, get_or, slice_set, refl, sym, ap, ap₂, ◌∙◌, Option, Some, None, arith, append_assoc, append-nil}
use Rattle.std.specs.Prelude.{cond}
use Rattle.std.specs.Option.{option_map}
use Rattle.std.specs.Ordering.{nat_cmp}
use Rattle.std.specs.Cmp.{unsigned_tied}
use Rattle.std.specs.BTreeMap.{BTreeMap, get, Updates}
use Rattle.std.proofs.lemmas.Bool.{eqb-true}
use Rattle.std.proofs.lemmas.Bool.Decides.{nat_tests}
use Rattle.pcode_model.specs.Spaces.{or}
use Rattle.cmeaning.specs.Places.{place}
use Rattle.cmeaning.specs.Valid.{is_in}
use Rattle.cmeaning.proofs.Places.{put, some_first}
use Rattle.blockcode.specs.declared.code.Arm.{Arm}
use Rattle.blockcode.specs.Laid.{values_to, without, targets, branch_to, branches}
use Rattle.pcode_laws.proofs.Rules.{neither}
use Rattle.blockcode.proofs.Targets.{AreOnce, in_without, once, values_none}
use Rattle.layout.specs.declared.branches.Led.{Led}
use Rattle.layout.specs.Collected.{first_of, with_one, with_value, with_case, with_cases, branch_arm, is_to, HasPlaces}

-- ---- where a case goes

module _ (a : Arm) where
  pub joined : (xs : List Led) (n : ℕ) → place (is_to a.to) xs ≡ Some n → with_value xs n a.value ≡ with_case xs a
  joined [] n h = absurd (cc)
  joined (x ∷ xs) n h = by (x.to == a.to) n (place (is_to a.to) xs) h (joined xs) where
    by : (b : Bool) (n : ℕ) (o : Option ℕ)
        → cond b (Some 0) (option_map suc o) ≡ Some n
        → ((m : ℕ) → o ≡ Some m → with_value xs m a.value ≡ with_case xs a)
        → with_value (x ∷ xs) n a.value ≡ cond b (with_one x a.value ∷ xs) (x ∷ with_case xs a)
    by true zero o h next = refl
    by true (suc n) o h next = absurd (cc)
    by false n None h next = absurd (cc)
    by false zero (Some m) h next = absurd (cc)
    by false (suc n) (Some m) h next = let same : m ≡ n = cc in ap (λ ys. x ∷ ys) (next n (ap (λ k. Some k) same))

  pub begun : (xs : List Led) → place (is_to a.to) xs ≡ None → xs ++ first_of a ∷ [] ≡ with_case xs a
  begun [] h = refl
  begun (x ∷ xs) h = by (x.to == a.to) (place (is_to a.to) xs) h (begun xs) where
    by : (b : Bool) (o : Option ℕ)
        → cond b (Some 0) (option_map suc o) ≡ None
        → (o ≡ None → xs ++ first_of a ∷ [] ≡ with_case xs a)
        → x ∷ (xs ++ first_of a ∷ []) ≡ cond b (with_one x a.value ∷ xs) (x ∷ with_case xs a)
    by true o h next = absurd (cc)
    by false None h next = ap (λ ys. x ∷ ys) (next refl)
    by false (Some m) h next = absurd (cc)

-- a value is pushed behind those at a place
pub pushed : (xs : List Led) (n v : ℕ) (x : Led) (vs : List ℕ)
    → n < length xs
    → x ≡ get_or xs n x
    → vs ≡ x.values ++ v ∷ []
    → slice_set xs n (record { to = x.to; values = vs }) ≡ with_value xs n v
pushed [] n v x vs lt is more = refl
pushed (y ∷ xs) zero v x vs lt is more =
    ap (λ us. let d : Led = record { to = x.to; values = us } in d ∷ xs) more
    ∙ ap (λ (d : Led). with_one d v ∷ xs) is
pushed (y ∷ xs) (suc n) v x vs lt is more = ap (λ ys. y ∷ ys) (pushed xs n v x vs (omega (arith, lt)) is more)

-- ---- the table

-- A value more moves nothing.
places_stay : (xs : List Led) (n v b : ℕ) → place (is_to b) (with_value xs n v) ≡ place (is_to b) xs
places_stay [] n v b = refl
places_stay (x ∷ xs) zero v b = refl
places_stay (x ∷ xs) (suc n) v b = ap (λ o. cond (x.to == b) (Some 0) (option_map suc o)) (places_stay xs n v b)

pub places_joined : (xs ys : List Led) (n v : ℕ) (table : BTreeMap ℕ ℕ)
    → HasPlaces xs table
    → ys ≡ with_value xs n v
    → HasPlaces ys table
places_joined xs ys n v table has is b = has b ∙ sym (places_stay xs n v b) ∙ ap (place (is_to b)) (sym is)

pub places_begun : (xs ys : List Led) (a : Arm) (x : Led) (end : ℕ) (old new : BTreeMap ℕ ℕ)
    → HasPlaces xs old
    → get nat_cmp old a.to ≡ None
    → end ≡ length xs
    → x ≡ first_of a
    → ys ≡ xs ++ x ∷ []
    → Updates nat_cmp old new a.to (Some end)
    → HasPlaces ys new
places_begun xs ys a x end old new has none last is more updates b =
    put is_to xs (first_of a) (get nat_cmp old) has (get nat_cmp new)
    (λ c. updates.0 c ∙ ap₂ (λ (t : Bool) (k : ℕ). cond t (Some k) (get nat_cmp old c)) (unsigned_tied a.to c) last)
    (λ c hit. ap (get nat_cmp old) (sym (eqb-true a.to c hit)) ∙ none) b
    ∙ ap (place (is_to b)) (sym (more ∙ ap (λ d. xs ++ d ∷ []) is))

pub place_within : (xs : List Led) (b n : ℕ) → place (is_to b) xs ≡ Some n → n < length xs
place_within xs b n h = (some_first (is_to b) n xs h).0

-- ---- the arms

-- the values that lead to a block, by a list of cases
abbrev led : List Arm → ℕ → Led
led arms to = record { to = to; values = values_to to arms }

abbrev all_led : List Arm → List ℕ → List Led
all_led arms ts = map (led arms) ts

arms_are : (arms : List Arm) (ts : List ℕ) → map branch_arm (all_led arms ts) ≡ map (branch_to arms) ts
arms_are arms [] = refl
arms_are arms (t ∷ ts) = ap (λ bs. branch_to arms t ∷ bs) (arms_are arms ts)

-- a block behind the others, unless it is one of them
abbrev with_last : List ℕ → ℕ → List ℕ
with_last ts t = cond (is_in t ts) ts (ts ++ t ∷ [])

without_append : (x : ℕ) (ts us : List ℕ) → without x (ts ++ us) ≡ without x ts ++ without x us
without_append x [] us = refl
without_append x (y ∷ ts) us = by (y == x) (without_append x ts us) where
  by : (b : Bool)
      → without x (ts ++ us) ≡ without x ts ++ without x us
      → cond b (without x (ts ++ us)) (y ∷ without x (ts ++ us))
      ≡ cond b (without x ts) (y ∷ without x ts) ++ without x us
  by true next = next
  by false next = ap (λ zs. y ∷ zs) next

-- the one that is dropped
without_same : (x t : ℕ) (ts : List ℕ) → (t == x) ≡ true → without x (with_last ts t) ≡ without x ts
without_same x t ts same = by (is_in t ts) where
  by : (b : Bool) → without x (cond b ts (ts ++ t ∷ [])) ≡ without x ts
  by true = refl
  by false = without_append x ts (t ∷ [])
      ∙ ap (λ b. without x ts ++ cond b [] (t ∷ [])) same
      ∙ append-nil (without x ts)

-- another one
without_other : (x t : ℕ) (ts : List ℕ) → (t == x) ≡ false → without x (with_last ts t) ≡ with_last (without x ts) t
without_other x t ts ne =
    by (is_in t ts) ∙ ap (λ b. cond b (without x ts) (without x ts ++ t ∷ [])) (sym (in_without x t ts ne)) where
      by : (b : Bool) → without x (cond b ts (ts ++ t ∷ [])) ≡ cond b (without x ts) (without x ts ++ t ∷ [])
      by true = refl
      by false = without_append x ts (t ∷ []) ∙ ap (λ b. without x ts ++ cond b [] (t ∷ [])) ne

last_behind : (x t : ℕ) (ts : List ℕ) → (t == x) ≡ false → with_last (x ∷ ts) t ≡ x ∷ with_last ts t
last_behind x t ts ne = ap (λ b. cond (or b (is_in t ts)) (x ∷ ts) (x ∷ (ts ++ t ∷ []))) ne ∙ by (is_in t ts) where
  by : (b : Bool) → cond b (x ∷ ts) (x ∷ (ts ++ t ∷ [])) ≡ x ∷ cond b ts (ts ++ t ∷ [])
  by true = refl
  by false = refl

targets_more : (xs : List Arm) (a : Arm) → targets (xs ++ a ∷ []) ≡ with_last (targets xs) a.to
targets_more [] a = refl
targets_more (x ∷ xs) a =
    ap (λ ts. x.to ∷ without x.to ts) (targets_more xs a) ∙ by (a.to == x.to) refl where
      by : (b : Bool) → (a.to == x.to) ≡ b
          → x.to ∷ without x.to (with_last (targets xs) a.to) ≡ with_last (x.to ∷ without x.to (targets xs)) a.to
      by true e =
          ap (λ ts. x.to ∷ ts) (without_same x.to a.to (targets xs) e)
          ∙ sym (ap (λ b. cond (or b (is_in a.to (without x.to (targets xs)))) (x.to ∷ without x.to (targets xs))
          (x.to ∷ (without x.to (targets xs) ++ a.to ∷ []))) e)
      by false e =
          ap (λ ts. x.to ∷ ts) (without_other x.to a.to (targets xs) e)
          ∙ sym (last_behind x.to a.to (without x.to (targets xs)) e)

values_more : (t : ℕ) (xs : List Arm) (a : Arm)
    → values_to t (xs ++ a ∷ []) ≡ cond (a.to == t) (values_to t xs ++ a.value ∷ []) (values_to t xs)
values_more t [] a = refl
values_more t (x ∷ xs) a = by (x.to == t) (a.to == t) (values_more t xs a) where
  by : (b c : Bool)
      → values_to t (xs ++ a ∷ []) ≡ cond c (values_to t xs ++ a.value ∷ []) (values_to t xs)
      → cond b (x.value ∷ values_to t (xs ++ a ∷ [])) (values_to t (xs ++ a ∷ []))
      ≡ cond c (cond b (x.value ∷ values_to t xs) (values_to t xs) ++ a.value ∷ [])
      (cond b (x.value ∷ values_to t xs) (values_to t xs))
  by true true next = ap (λ vs. x.value ∷ vs) next
  by true false next = ap (λ vs. x.value ∷ vs) next
  by false true next = next
  by false false next = next

-- ---- one more case

module _ (xs : List Arm) (a : Arm) where
  led_kept : (t : ℕ) → (a.to == t) ≡ false → led xs t ≡ led (xs ++ a ∷ []) t
  led_kept t ne = ap (λ vs. let d : Led = record { to = t; values = vs } in d)
      (sym (values_more t xs a ∙ ap (λ b. cond b (values_to t xs ++ a.value ∷ []) (values_to t xs)) ne))

  led_more : (t : ℕ) → (a.to == t) ≡ true → with_one (led xs t) a.value ≡ led (xs ++ a ∷ []) t
  led_more t same = ap (λ vs. let d : Led = record { to = t; values = vs } in d)
      (sym (values_more t xs a ∙ ap (λ b. cond b (values_to t xs ++ a.value ∷ []) (values_to t xs)) same))

  all_kept : (ts : List ℕ) → is_in a.to ts ≡ false → all_led xs ts ≡ all_led (xs ++ a ∷ []) ts
  all_kept [] h = refl
  all_kept (t ∷ ts) h = let parts = neither (a.to == t) (is_in a.to ts) h in
      ap₂ (λ (d : Led) (ds : List Led). d ∷ ds) (led_kept t parts.0) (all_kept ts parts.1)

  case_led : (ts : List ℕ)
      → AreOnce ts
      → (is_in a.to ts ≡ false → values_to a.to xs ≡ [])
      → with_case (all_led xs ts) a ≡ all_led (xs ++ a ∷ []) (with_last ts a.to)
  case_led [] once none =
      let same : (a.to == a.to) ≡ true = grind (arith, nat_tests) in
      ap (λ vs. let d : Led = record { to = a.to; values = vs } in d ∷ [])
      (sym (values_more a.to xs a
      ∙ ap (λ b. cond b (values_to a.to xs ++ a.value ∷ []) (values_to a.to xs)) same
      ∙ ap (λ vs. vs ++ a.value ∷ []) (none refl)))
  case_led (t ∷ ts) once none = by (t == a.to) refl (case_led ts once.1) where
    by : (b : Bool) → (t == a.to) ≡ b
        → ((is_in a.to ts ≡ false → values_to a.to xs ≡ [])
        → with_case (all_led xs ts) a ≡ all_led (xs ++ a ∷ []) (with_last ts a.to))
        → cond b (with_one (led xs t) a.value ∷ all_led xs ts) (led xs t ∷ with_case (all_led xs ts) a)
        ≡ all_led (xs ++ a ∷ []) (with_last (t ∷ ts) a.to)
    by true e next =
        let is : t ≡ a.to = grind (arith, nat_tests, e) in
        let same : (a.to == t) ≡ true = grind (arith, nat_tests, e) in
        let absent : is_in a.to ts ≡ false = ap (λ z. is_in z ts) (sym is) ∙ once.0 in
        ap₂ (λ (d : Led) (ds : List Led). d ∷ ds) (led_more t same) (all_kept ts absent)
        ∙ sym (ap (λ b. all_led (xs ++ a ∷ []) (cond (or b (is_in a.to ts)) (t ∷ ts) (t ∷ (ts ++ a.to ∷ [])))) same)
    by false e next =
        let ne : (a.to == t) ≡ false = grind (arith, nat_tests, e) in
        ap₂ (λ (d : Led) (ds : List Led). d ∷ ds) (led_kept t ne)
        (next (λ h. none (ap (λ b. or b (is_in a.to ts)) ne ∙ h)))
        ∙ sym (ap (all_led (xs ++ a ∷ [])) (last_behind t a.to ts ne))

  case_collected : with_case (all_led xs (targets xs)) a ≡ all_led (xs ++ a ∷ []) (targets (xs ++ a ∷ []))
  case_collected = case_led (targets xs) (once xs) (values_none a.to xs)
      ∙ sym (ap (all_led (xs ++ a ∷ [])) (targets_more xs a))

all_collected : (xs rest : List Arm)
    → with_cases (all_led xs (targets xs)) rest ≡ all_led (xs ++ rest) (targets (xs ++ rest))
all_collected xs [] = ap (λ ys. all_led ys (targets ys)) (sym (append-nil xs))
all_collected xs (a ∷ rest) =
    ap (λ ds. with_cases ds rest) (case_collected xs a)
    ∙ all_collected (xs ++ a ∷ []) rest
    ∙ ap (λ ys. all_led ys (targets ys)) (append_assoc xs (a ∷ []) rest)

-- The cases one after another make the arms.
pub branches_are : (arms : List Arm) → map branch_arm (with_cases [] arms) ≡ branches arms
branches_are arms = ap (map branch_arm) (all_collected [] arms) ∙ arms_are arms (targets arms)
