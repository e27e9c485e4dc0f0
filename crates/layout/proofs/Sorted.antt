-- Cases that were sorted by their values, with cases of one value in their order, are the cases by their values: there is
-- one such list, since its first case is the first one of the least value.
use Rattle.std.proofs.Common.{◌≡◌, ℕ, suc, ◌<◌, ◌≤◌, Bool, true, false, List, [], ◌∷◌, length, get_or, refl, sym, ap, ◌∙◌, arith}
use Rattle.std.specs.Prelude.{◌==◌, cond, nat_lt}
use Rattle.std.specs.List.{AllByRecursion, filter}
use Rattle.std.specs.List.Sorted.{IsNonDecreasingBy, IsStableByKey, ties}
use Rattle.std.specs.Ordering.{is_lt, nat_cmp}
use Rattle.std.proofs.Math.Path.{fun_ext}
use Rattle.std.proofs.lemmas.Bool.Decides.{nat_tests}
use Rattle.blockcode.specs.declared.code.Arm.{Arm}
use Rattle.blockcode.specs.Laid.{by_value, placed}

abbrev pub value_of : Arm → ℕ
value_of a = a.value

abbrev has : ℕ → Arm → Bool
has v a = v == a.value

-- the cases of one value
abbrev with : ℕ → List Arm → List Arm
with v arms = filter (has v) arms

abbrev AllFrom : ℕ → List Arm → Type 0
AllFrom n arms = AllByRecursion (λ (a : Arm). n ≤ a.value) arms

-- no value is above one behind it
abbrev Climb : List Arm → Type 0
Climb [] = Unit {0}
Climb (a ∷ rest) = AllFrom a.value rest × Climb rest

-- ---- one list

none_below : (v n : ℕ) (arms : List Arm) → v < n → AllFrom n arms → with v arms ≡ []
none_below v n [] less all = refl
none_below v n (a ∷ rest) less all =
    let high : n ≤ a.value = all.0 in
    let other : (v == a.value) ≡ false = grind (arith, nat_tests, less, high) in
    ap (λ b. cond b (a ∷ with v rest) (with v rest)) other ∙ none_below v n rest less all.1

has_own : (a : Arm) (rest : List Arm) → with a.value (a ∷ rest) ≡ a ∷ with a.value rest
has_own a rest =
    let same : (a.value == a.value) ≡ true = grind (arith, nat_tests) in
    ap (λ b. cond b (a ∷ with a.value rest) (with a.value rest)) same

-- A case of a value below those of a list is missing there.
missing : (x y : Arm) (xs ys : List Arm)
    → ((v : ℕ) → with v (x ∷ xs) ≡ with v (y ∷ ys))
    → AllFrom y.value ys
    → x.value < y.value
    → ⊥
missing x y xs ys same all less =
    let low : y.value ≤ y.value = omega arith in
    let gone : x ∷ with x.value xs ≡ [] = sym (has_own x xs) ∙ same x.value
    ∙ none_below x.value y.value (y ∷ ys) less (low, all) in
    absurd (cc)

rest_same : (x y : Arm) (xs ys : List Arm) (v : ℕ)
    → x ≡ y
    → with v (x ∷ xs) ≡ with v (y ∷ ys)
    → with v xs ≡ with v ys
rest_same x y xs ys v head same =
    by (v == x.value) (same ∙ ap (λ (z : Arm). with v (z ∷ ys)) (sym head)) where
      by : (b : Bool) → cond b (x ∷ with v xs) (with v xs) ≡ cond b (x ∷ with v ys) (with v ys) → with v xs ≡ with v ys
      by true e = cc
      by false e = e

-- Of two lists that climb and have the same cases of each value, in the same order, both are the same list.
one_list : (xs ys : List Arm) → Climb xs → Climb ys → ((v : ℕ) → with v xs ≡ with v ys) → xs ≡ ys
one_list [] [] up high same = refl
one_list [] (y ∷ ys) up high same =
    let gone : [] ≡ y ∷ with y.value ys = same y.value ∙ has_own y ys in absurd (cc)
one_list (x ∷ xs) [] up high same =
    let gone : [] ≡ x ∷ with x.value xs = sym (same x.value) ∙ has_own x xs in absurd (cc)
one_list (x ∷ xs) (y ∷ ys) up high same =
    by (nat_lt x.value y.value) (nat_lt y.value x.value) refl refl (one_list xs ys up.1 high.1) where
      by : (b c : Bool) → nat_lt x.value y.value ≡ b → nat_lt y.value x.value ≡ c
          → (((v : ℕ) → with v xs ≡ with v ys) → xs ≡ ys)
          → x ∷ xs ≡ y ∷ ys
      by true c e f next =
          let less : x.value < y.value = grind (arith, nat_tests, e) in absurd (missing x y xs ys same high.0 less)
      by false true e f next =
          let less : y.value < x.value = grind (arith, nat_tests, f) in
          absurd (missing y x ys xs (λ v. sym (same v)) up.0 less)
      by false false e f next =
          let alike : x.value ≡ y.value = grind (arith, nat_tests, e, f) in
          let heads : x ∷ with x.value xs ≡ y ∷ with y.value ys =
          sym (has_own x xs) ∙ same x.value ∙ ap (λ v. with v (y ∷ ys)) alike ∙ has_own y ys in
          let head : x ≡ y = cc in
          ap (λ z. z ∷ xs) head ∙ ap (λ zs. y ∷ zs) (next (λ v. rest_same x y xs ys v head (same v)))

-- ---- the cases by their values are such a list

from_placed : (n : ℕ) (a : Arm) (xs : List Arm) → n ≤ a.value → AllFrom n xs → AllFrom n (placed a xs)
from_placed n a [] low all = (low, tt)
from_placed n a (x ∷ xs) low all = by (nat_lt x.value a.value) (from_placed n a xs low all.1) where
  by : (b : Bool) → AllFrom n (placed a xs) → AllFrom n (cond b (x ∷ placed a xs) (a ∷ x ∷ xs))
  by true next = (all.0, next)
  by false next = (low, all)

from_lower : (m n : ℕ) (xs : List Arm) → m ≤ n → AllFrom n xs → AllFrom m xs
from_lower m n [] low all = tt
from_lower m n (x ∷ xs) low all =
    let here : n ≤ x.value = all.0 in (omega (arith, low, here), from_lower m n xs low all.1)

climb_placed : (a : Arm) (xs : List Arm) → Climb xs → Climb (placed a xs)
climb_placed a [] up = (tt, tt)
climb_placed a (x ∷ xs) up = by (nat_lt x.value a.value) refl (climb_placed a xs up.1) where
  by : (b : Bool) → nat_lt x.value a.value ≡ b → Climb (placed a xs) → Climb (cond b (x ∷ placed a xs) (a ∷ x ∷ xs))
  by true e next =
      let low : x.value ≤ a.value = grind (arith, nat_tests, e) in
      (from_placed x.value a xs low up.0, next)
  by false e next =
      let low : a.value ≤ x.value = grind (arith, nat_tests, e) in
      ((low, from_lower a.value x.value xs low up.0), up)

climb_all : (arms : List Arm) → Climb (by_value arms)
climb_all [] = tt
climb_all (a ∷ rest) = climb_placed a (by_value rest) (climb_all rest)

with_placed : (v : ℕ) (a : Arm) (xs : List Arm) → with v (placed a xs) ≡ with v (a ∷ xs)
with_placed v a [] = refl
with_placed v a (x ∷ xs) = by (nat_lt x.value a.value) refl (with_placed v a xs) where
  turned : (b c : Bool) → (v == x.value) ≡ b → (v == a.value) ≡ c → nat_lt x.value a.value ≡ true
      → cond b (x ∷ cond c (a ∷ with v xs) (with v xs)) (cond c (a ∷ with v xs) (with v xs))
      ≡ cond c (a ∷ cond b (x ∷ with v xs) (with v xs)) (cond b (x ∷ with v xs) (with v xs))
  turned true true e f less =
      let one : v ≡ x.value = grind (arith, nat_tests, e) in
      let two : v ≡ a.value = grind (arith, nat_tests, f) in
      absurd (grind (arith, nat_tests, one, two, less))
  turned true false e f less = refl
  turned false true e f less = refl
  turned false false e f less = refl

  by : (b : Bool) → nat_lt x.value a.value ≡ b
      → with v (placed a xs) ≡ with v (a ∷ xs)
      → with v (cond b (x ∷ placed a xs) (a ∷ x ∷ xs)) ≡ with v (a ∷ x ∷ xs)
  by true less next =
      ap (λ zs. cond (v == x.value) (x ∷ zs) zs) next ∙ turned (v == x.value) (v == a.value) refl refl less
  by false less next = refl

with_all : (v : ℕ) (arms : List Arm) → with v (by_value arms) ≡ with v arms
with_all v [] = refl
with_all v (a ∷ rest) =
    with_placed v a (by_value rest) ∙ ap (λ zs. cond (v == a.value) (a ∷ zs) zs) (with_all v rest)

-- ---- what a sort says

from_rest : (n : ℕ) (arms : List Arm)
    → ((i : ℕ) (d : Arm) → i < length arms → n ≤ (get_or arms i d).value)
    → AllFrom n arms
from_rest n [] low = tt
from_rest n (a ∷ rest) low =
    let first : 0 < length (a ∷ rest) = omega arith in
    (low 0 a first, from_rest n rest (λ i d lt. low (suc i) d (omega (arith, lt))))

climbs : (arms : List Arm) → IsNonDecreasingBy value_of arms → Climb arms
climbs [] up = tt
climbs (a ∷ rest) up = (
  from_rest a.value rest (λ i d lt. up 0 (suc i) d (omega arith) (omega (arith, lt))),
  climbs rest (λ i j d le lt. up (suc i) (suc j) d (omega (arith, le)) (omega (arith, lt))),
)

abbrev lower : Arm → Arm → Bool
lower x y = is_lt (nat_cmp x.value y.value)

ties_are : (x y : Arm) → ties lower x y ≡ has x.value y
ties_are x y = by (nat_lt x.value y.value) (nat_lt y.value x.value) (x.value == y.value) refl refl refl where
  by : (b c d : Bool) → nat_lt x.value y.value ≡ b → nat_lt y.value x.value ≡ c → (x.value == y.value) ≡ d
      → ties lower x y ≡ (x.value == y.value)
  by b c d e f g = grind (arith, nat_tests)

tied_with : (x : Arm) (arms : List Arm) → filter (ties lower x) arms ≡ with x.value arms
tied_with x arms = ap (λ test. filter test arms) (fun_ext (ties_are x))

-- the cases of a value, where a sort leaves those that tie
kept_with : (v : ℕ) (xs ys : List Arm) → IsStableByKey value_of nat_cmp xs ys → with v ys ≡ with v xs
kept_with v xs ys stable =
    let a : Arm = record { value = v; to = 0 } in
    sym (tied_with a ys) ∙ stable a ∙ tied_with a xs

-- A stable sort by the values puts cases by their values.
pub sorted_are : (xs ys : List Arm)
    → IsNonDecreasingBy value_of ys
    → IsStableByKey value_of nat_cmp xs ys
    → ys ≡ by_value xs
sorted_are xs ys up stable =
    one_list ys (by_value xs) (climbs ys up) (climb_all xs) (λ v. kept_with v xs ys stable ∙ sym (with_all v xs))
