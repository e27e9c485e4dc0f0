-- Case values by a set: that they are new one after another is that they are distinct.
use Rattle.std.proofs.Common.{◌≡◌, ℕ, ◌+◌, ◌<◌, ◌≤◌, ◌==◌, ◌&&◌, not, Bool, true, false, IsTrue, List, [], ◌∷◌, ◌++◌, length, take, drop, refl, sym, ap, ap₂, ◌∙◌, subst, arith}
use Rattle.std.proofs.lemmas.Bool.Decides.{nat_tests}
use Rattle.std.specs.Prelude.{cond}
use Rattle.std.proofs.Math.ListN.{get_or}
use Rattle.std.proofs.lemmas.List.{take_more, at_drop_more, at_drop_all, take_all, append_assoc, append-nil}
use Rattle.std.specs.Ordering.{nat_cmp}
use Rattle.std.specs.Cmp.{unsigned_tied}
use Rattle.std.specs.BTreeSet.{BTreeSet, contains, Updates}
use Rattle.std.proofs.lemmas.Bool.{not-true}
use Rattle.pcode_model.specs.Spaces.{or}
use Rattle.cmeaning.specs.declared.tree.Arm.{Arm}
use Rattle.cmeaning.specs.Valid.{is_in, are_distinct, cases_of}
use Rattle.cmeaning.specs.Arms.{arms_differ, are_new, Holds}
use Rattle.cmeaning.proofs.Distinct.{distinct_by_arms, is_in_append, and_and}

same_back : (x y : ℕ) → (x == y) ≡ (y == x)
same_back x y = grind (arith, nat_tests)

-- ---- sets

one_more : (b c : Bool) → cond b true c ≡ or c (or b false)
one_more true true = refl
one_more true false = refl
one_more false true = refl
one_more false false = refl

pub holds_more : (set new : BTreeSet ℕ) (known : List ℕ) (x : ℕ)
    → Holds set known
    → Updates nat_cmp set new x true
    → Holds new (known ++ x ∷ [])
holds_more set new known x holds updates y =
    updates.0 y
    ∙ ap₂ (λ (b c : Bool). cond b true c) (unsigned_tied x y ∙ same_back x y) (holds y)
    ∙ one_more (y == x) (is_in y known)
    ∙ sym (is_in_append y known (x ∷ []))

-- ---- values

-- none of the values is known
abbrev apart : List ℕ → List ℕ → Bool
apart known [] = true
apart known (x ∷ xs) = not (is_in x known) && apart known xs

apart_none : (xs : List ℕ) → apart [] xs ≡ true
apart_none [] = refl
apart_none (x ∷ xs) = apart_none xs

turned : (a b c d : Bool) → not (or a (or b false)) && (c && not d) ≡ (not a && c) && not (or b d)
turned true true c d = refl
turned true false c d = refl
turned false true true d = refl
turned false true false d = refl
turned false false true true = refl
turned false false true false = refl
turned false false false d = refl

apart_more : (known : List ℕ) (x : ℕ) (xs : List ℕ) → apart (known ++ x ∷ []) xs ≡ apart known xs && not (is_in x xs)
apart_more known x [] = refl
apart_more known x (y ∷ xs) =
    ap₂ (λ (b c : Bool). not b && c) (is_in_append y known (x ∷ [])) (apart_more known x xs)
    ∙ turned (is_in y known) (y == x) (apart known xs) (is_in x xs)
    ∙ ap (λ (b : Bool). (not (is_in y known) && apart known xs) && not (or b (is_in x xs))) (same_back y x)

moved : (a b c d : Bool) → a && ((b && c) && d) ≡ (a && b) && (c && d)
moved true true c d = refl
moved true false c d = refl
moved false b c d = refl

new_is : (known xs : List ℕ) → are_new known xs ≡ apart known xs && are_distinct xs
new_is known [] = refl
new_is known (x ∷ xs) =
    ap (λ (b : Bool). not (is_in x known) && b)
    (new_is (known ++ x ∷ []) xs ∙ ap (λ (b : Bool). b && are_distinct xs) (apart_more known x xs))
    ∙ moved (not (is_in x known)) (apart known xs) (not (is_in x xs)) (are_distinct xs)

-- values are distinct where each is new
pub new_by_arms : (arms : List Arm) → are_new [] (cases_of arms) ≡ arms_differ arms
new_by_arms arms =
    new_is [] (cases_of arms)
    ∙ ap (λ (b : Bool). b && are_distinct (cases_of arms)) (apart_none (cases_of arms))
    ∙ distinct_by_arms arms

-- ---- the turns of the loops

not_false : (b : Bool) → false ≡ not b → b ≡ true
not_false true h = refl
not_false false h = cc

one_on : (known values : List ℕ) (i : ℕ)
    → i < length values
    → known ++ take (i + 1) values ≡ (known ++ take i values) ++ get_or values i 0 ∷ []
one_on known values i within = ap (λ (r : List ℕ). known ++ r) (take_more values i 0 within)
    ∙ sym (append_assoc known (take i values) (get_or values i 0 ∷ []))

pub value_added : (set new : BTreeSet ℕ) (known values : List ℕ) (i : ℕ)
    → i < length values
    → Holds set (known ++ take i values)
    → are_new (known ++ take i values) (drop i values) ≡ are_new known values
    → true ≡ not (contains nat_cmp set (get_or values i 0)) → Updates nat_cmp set new (get_or values i 0) true
    → Holds new (known ++ take (i + 1) values)
    × (are_new (known ++ take (i + 1) values) (drop (i + 1) values) ≡ are_new known values)
value_added set new known values i within holds before added updates =
    let x : ℕ = get_or values i 0 in
    let now : List ℕ = known ++ take i values in
    let front : known ++ take (i + 1) values ≡ now ++ x ∷ [] = one_on known values i within in
    let absent : is_in x now ≡ false = sym (holds x) ∙ not-true (contains nat_cmp set x) (sym added) in
    let step : are_new now (drop i values) ≡ are_new (now ++ x ∷ []) (drop (i + 1) values) =
    at_drop_more (are_new now) values i 0 within
    ∙ ap (λ (b : Bool). not b && are_new (now ++ x ∷ []) (drop (i + 1) values)) absent in (
      subst (Holds new) (sym front) (holds_more set new now x holds updates),
      ap
          (λ (k : List ℕ). are_new k (drop (i + 1) values)) front ∙ sym step ∙ before,
    )

pub value_known : (set : BTreeSet ℕ) (known values : List ℕ) (i : ℕ)
    → i < length values
    → Holds set (known ++ take i values)
    → are_new (known ++ take i values) (drop i values) ≡ are_new known values
    → false ≡ not (contains nat_cmp set (get_or values i 0)) → false ≡ are_new known values
value_known set known values i within holds before added =
    let x : ℕ = get_or values i 0 in
    let now : List ℕ = known ++ take i values in
    let present : is_in x now ≡ true = sym (holds x) ∙ not_false (contains nat_cmp set x) added in
    let step : are_new now (drop i values) ≡ false =
    at_drop_more (are_new now) values i 0 within
    ∙ ap (λ (b : Bool). not b && are_new (now ++ x ∷ []) (drop (i + 1) values)) present in
    sym step ∙ before

pub values_end : (set : BTreeSet ℕ) (known values : List ℕ) (i : ℕ)
    → length values ≤ i
    → Holds set (known ++ take i values)
    → are_new (known ++ take i values) (drop i values) ≡ are_new known values
    → (true ≡ are_new known values) × (IsTrue true → Holds set (known ++ values))
values_end set known values i past holds before = (
  sym (at_drop_all (are_new (known ++ take i values)) values i past)
      ∙ before,
  λ t. subst (λ (r : List ℕ). Holds set (known ++ r)) (take_all i values past) holds,
)

new_append : (known xs ys : List ℕ) → are_new known (xs ++ ys) ≡ are_new known xs && are_new (known ++ xs) ys
new_append known [] ys = ap (λ (k : List ℕ). are_new k ys) (sym (append-nil known))
new_append known (x ∷ xs) ys =
    ap (λ (b : Bool). not (is_in x known) && b)
    (new_append (known ++ x ∷ []) xs ys
    ∙ ap (λ (k : List ℕ). are_new (known ++ x ∷ []) xs && are_new k ys) (append_assoc known (x ∷ []) xs))
    ∙ and_and (not (is_in x known)) (are_new (known ++ x ∷ []) xs) (are_new (known ++ (x ∷ xs)) ys)

-- an arm, then those that are left
arm_first : (known : List ℕ) (arms : List Arm) (i : ℕ) (a : Arm) → i < length arms → a ≡ get_or arms i a
    → are_new known (cases_of (drop i arms)) ≡ are_new known a.cases
    && are_new (known ++ a.cases) (cases_of (drop (i + 1) arms))
arm_first known arms i a within is =
    at_drop_more (λ (rest : List Arm). are_new known (cases_of rest)) arms i a within
    ∙ ap (λ (b : Arm). are_new known (b.cases ++ cases_of (drop (i + 1) arms))) (sym is)
    ∙ new_append known a.cases (cases_of (drop (i + 1) arms))

-- what a set has and what is left
abbrev pub Left : BTreeSet ℕ → ℕ → List Arm → Type 0
Left set i arms = (known : List ℕ)
    × (Holds set known × (are_new known (cases_of (drop i arms)) ≡ are_new [] (cases_of arms)))

-- what an arm's values add
abbrev Adds : BTreeSet ℕ → BTreeSet ℕ → List ℕ → Bool → Type 0
Adds set new values b = (known : List ℕ) → Holds set known → (b ≡ are_new known values)
    × (IsTrue b → Holds new (known ++ values))

pub arm_added : (set new : BTreeSet ℕ) (arms : List Arm) (i : ℕ) (a : Arm) (values : List ℕ) (b : Bool)
    → i < length arms
    → a ≡ get_or arms i a
    → values ≡ a.cases
    → Left set i arms
    → Adds set new values b → b ≡ true → Left new (i + 1) arms
arm_added set new arms i a values b within is same left adds added =
    let by = subst (λ (vs : List ℕ). Adds set new vs b) same adds left.0 left.1.0 in (
      left.0 ++ a.cases,
      (
        by.1 added,
        ap
            (λ (t : Bool). t && are_new (left.0 ++ a.cases) (cases_of (drop (i + 1) arms))) (sym added ∙ by.0)
            ∙ sym (arm_first left.0 arms i a within is) ∙ left.1.1,
      ),
    )

pub arm_known : (set new : BTreeSet ℕ) (arms : List Arm) (i : ℕ) (a : Arm) (values : List ℕ) (b : Bool)
    → i < length arms
    → a ≡ get_or arms i a
    → values ≡ a.cases
    → Left set i arms
    → Adds set new values b → b ≡ false → false ≡ arms_differ arms
arm_known set new arms i a values b within is same left adds known =
    let by = subst (λ (vs : List ℕ). Adds set new vs b) same adds left.0 left.1.0 in
    ap (λ (t : Bool). t && are_new (left.0 ++ a.cases) (cases_of (drop (i + 1) arms))) (sym known ∙ by.0)
    ∙ sym (arm_first left.0 arms i a within is) ∙ left.1.1 ∙ new_by_arms arms

pub arms_end : (set : BTreeSet ℕ) (arms : List Arm) (i : ℕ)
    → length arms ≤ i
    → Left set i arms
    → true ≡ arms_differ arms
arms_end set arms i past left = sym (at_drop_all (λ (rest : List Arm). are_new left.0 (cases_of rest)) arms i past)
    ∙ left.1.1 ∙ new_by_arms arms
