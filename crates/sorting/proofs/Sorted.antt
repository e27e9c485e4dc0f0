-- Items that were sorted by their keys, with items of one key in their order, are the items by their keys: there is one
-- such list, since its first item is the first one of the least key.
use Rattle.std.proofs.Common.{◌≡◌, ℕ, suc, ◌<◌, ◌≤◌, Bool, true, false, List, [], ◌∷◌, length, get_or, refl, sym, ap, ◌∙◌, arith}
use Rattle.std.specs.Prelude.{◌==◌, cond, nat_lt}
use Rattle.std.specs.List.{AllByRecursion, filter}
use Rattle.std.specs.List.Sorted.{IsNonDecreasingBy, IsStableByKey, ties}
use Rattle.std.specs.Ordering.{is_lt, nat_cmp}
use Rattle.std.proofs.Math.Path.{fun_ext}
use Rattle.std.proofs.lemmas.Bool.Decides.{nat_tests}
use Rattle.sorting.specs.Order.{by_key, placed_by}

module _ {X : Type 0} (key : X → ℕ) where
  abbrev has : ℕ → X → Bool
  has v a = v == (key a)

  -- the items of one key
  abbrev with : ℕ → List X → List X
  with v items = filter (has v) items

  abbrev AllFrom : ℕ → List X → Type 0
  AllFrom n items = AllByRecursion (λ (a : X). n ≤ (key a)) items

  -- no key is above one behind it
  abbrev Climb : List X → Type 0
  Climb [] = Unit {0}
  Climb (a ∷ rest) = AllFrom (key a) rest × Climb rest

  -- ---- one list

  none_below : (v n : ℕ) (items : List X) → v < n → AllFrom n items → with v items ≡ []
  none_below v n [] less all = refl
  none_below v n (a ∷ rest) less all =
      let high : n ≤ (key a) = all.0 in
      let other : (v == (key a)) ≡ false = grind (arith, nat_tests, less, high) in
      ap (λ b. cond b (a ∷ with v rest) (with v rest)) other ∙ none_below v n rest less all.1

  has_own : (a : X) (rest : List X) → with (key a) (a ∷ rest) ≡ a ∷ with (key a) rest
  has_own a rest =
      let same : ((key a) == (key a)) ≡ true = grind (arith, nat_tests) in
      ap (λ b. cond b (a ∷ with (key a) rest) (with (key a) rest)) same

  -- An item of a key below those of a list is missing there.
  missing : (x y : X) (xs ys : List X)
      → ((z : X) → with (key z) (x ∷ xs) ≡ with (key z) (y ∷ ys))
      → AllFrom (key y) ys
      → (key x) < (key y)
      → ⊥
  missing x y xs ys same all less =
      let low : (key y) ≤ (key y) = omega arith in
      let gone : x ∷ with (key x) xs ≡ [] = sym (has_own x xs) ∙ same x
      ∙ none_below (key x) (key y) (y ∷ ys) less (low, all) in
      absurd (cc)

  rest_same : (x y : X) (xs ys : List X) (v : ℕ)
      → x ≡ y
      → with v (x ∷ xs) ≡ with v (y ∷ ys)
      → with v xs ≡ with v ys
  rest_same x y xs ys v head same =
      by (v == (key x)) (same ∙ ap (λ (z : X). with v (z ∷ ys)) (sym head)) where
        by : (b : Bool) → cond b (x ∷ with v xs) (with v xs) ≡ cond b (x ∷ with v ys) (with v ys) → with v xs ≡ with v ys
        by true e = cc
        by false e = e

  -- Of two lists that climb and have the same items of each key, in the same order, both are the same list.
  one_list : (xs ys : List X) → Climb xs → Climb ys → ((z : X) → with (key z) xs ≡ with (key z) ys) → xs ≡ ys
  one_list [] [] up high same = refl
  one_list [] (y ∷ ys) up high same =
      let gone : [] ≡ y ∷ with (key y) ys = same y ∙ has_own y ys in absurd (cc)
  one_list (x ∷ xs) [] up high same =
      let gone : [] ≡ x ∷ with (key x) xs = sym (same x) ∙ has_own x xs in absurd (cc)
  one_list (x ∷ xs) (y ∷ ys) up high same =
      by (nat_lt (key x) (key y)) (nat_lt (key y) (key x)) refl refl (one_list xs ys up.1 high.1) where
        by : (b c : Bool) → nat_lt (key x) (key y) ≡ b → nat_lt (key y) (key x) ≡ c
            → (((z : X) → with (key z) xs ≡ with (key z) ys) → xs ≡ ys)
            → x ∷ xs ≡ y ∷ ys
        by true c e f next =
            let less : (key x) < (key y) = grind (arith, nat_tests, e) in absurd (missing x y xs ys same high.0 less)
        by false true e f next =
            let less : (key y) < (key x) = grind (arith, nat_tests, f) in
            absurd (missing y x ys xs (λ v. sym (same v)) up.0 less)
        by false false e f next =
            let alike : (key x) ≡ (key y) = grind (arith, nat_tests, e, f) in
            let heads : x ∷ with (key x) xs ≡ y ∷ with (key y) ys =
            sym (has_own x xs) ∙ same x ∙ ap (λ v. with v (y ∷ ys)) alike ∙ has_own y ys in
            let head : x ≡ y = cc in
            ap (λ z. z ∷ xs) head ∙ ap (λ zs. y ∷ zs) (next (λ v. rest_same x y xs ys (key v) head (same v)))

  -- ---- the items by their keys are such a list

  from_placed : (n : ℕ) (a : X) (xs : List X) → n ≤ (key a) → AllFrom n xs → AllFrom n (placed_by key a xs)
  from_placed n a [] low all = (low, tt)
  from_placed n a (x ∷ xs) low all = by (nat_lt (key x) (key a)) (from_placed n a xs low all.1) where
    by : (b : Bool) → AllFrom n (placed_by key a xs) → AllFrom n (cond b (x ∷ placed_by key a xs) (a ∷ x ∷ xs))
    by true next = (all.0, next)
    by false next = (low, all)

  from_lower : (m n : ℕ) (xs : List X) → m ≤ n → AllFrom n xs → AllFrom m xs
  from_lower m n [] low all = tt
  from_lower m n (x ∷ xs) low all =
      let here : n ≤ (key x) = all.0 in (omega (arith, low, here), from_lower m n xs low all.1)

  climb_placed : (a : X) (xs : List X) → Climb xs → Climb (placed_by key a xs)
  climb_placed a [] up = (tt, tt)
  climb_placed a (x ∷ xs) up = by (nat_lt (key x) (key a)) refl (climb_placed a xs up.1) where
    by : (b : Bool) → nat_lt (key x) (key a) ≡ b → Climb (placed_by key a xs) → Climb (cond b (x ∷ placed_by key a xs) (a ∷ x ∷ xs))
    by true e next =
        let low : (key x) ≤ (key a) = grind (arith, nat_tests, e) in
        (from_placed (key x) a xs low up.0, next)
    by false e next =
        let low : (key a) ≤ (key x) = grind (arith, nat_tests, e) in
        ((low, from_lower (key a) (key x) xs low up.0), up)

  climb_all : (items : List X) → Climb (by_key key items)
  climb_all [] = tt
  climb_all (a ∷ rest) = climb_placed a (by_key key rest) (climb_all rest)

  with_placed : (v : ℕ) (a : X) (xs : List X) → with v (placed_by key a xs) ≡ with v (a ∷ xs)
  with_placed v a [] = refl
  with_placed v a (x ∷ xs) = by (nat_lt (key x) (key a)) refl (with_placed v a xs) where
    turned : (b c : Bool) → (v == (key x)) ≡ b → (v == (key a)) ≡ c → nat_lt (key x) (key a) ≡ true
        → cond b (x ∷ cond c (a ∷ with v xs) (with v xs)) (cond c (a ∷ with v xs) (with v xs))
        ≡ cond c (a ∷ cond b (x ∷ with v xs) (with v xs)) (cond b (x ∷ with v xs) (with v xs))
    turned true true e f less =
        let one : v ≡ (key x) = grind (arith, nat_tests, e) in
        let two : v ≡ (key a) = grind (arith, nat_tests, f) in
        absurd (grind (arith, nat_tests, one, two, less))
    turned true false e f less = refl
    turned false true e f less = refl
    turned false false e f less = refl

    by : (b : Bool) → nat_lt (key x) (key a) ≡ b
        → with v (placed_by key a xs) ≡ with v (a ∷ xs)
        → with v (cond b (x ∷ placed_by key a xs) (a ∷ x ∷ xs)) ≡ with v (a ∷ x ∷ xs)
    by true less next =
        ap (λ zs. cond (v == (key x)) (x ∷ zs) zs) next ∙ turned (v == (key x)) (v == (key a)) refl refl less
    by false less next = refl

  with_all : (v : ℕ) (items : List X) → with v (by_key key items) ≡ with v items
  with_all v [] = refl
  with_all v (a ∷ rest) =
      with_placed v a (by_key key rest) ∙ ap (λ zs. cond (v == (key a)) (a ∷ zs) zs) (with_all v rest)

  -- ---- what a sort says

  from_rest : (n : ℕ) (items : List X)
      → ((i : ℕ) (d : X) → i < length items → n ≤ key (get_or items i d))
      → AllFrom n items
  from_rest n [] low = tt
  from_rest n (a ∷ rest) low =
      let first : 0 < length (a ∷ rest) = omega arith in
      (low 0 a first, from_rest n rest (λ i d lt. low (suc i) d (omega (arith, lt))))

  climbs : (items : List X) → IsNonDecreasingBy key items → Climb items
  climbs [] up = tt
  climbs (a ∷ rest) up = (
    from_rest (key a) rest (λ i d lt. up 0 (suc i) d (omega arith) (omega (arith, lt))),
    climbs rest (λ i j d le lt. up (suc i) (suc j) d (omega (arith, le)) (omega (arith, lt))),
  )

  abbrev lower : X → X → Bool
  lower x y = is_lt (nat_cmp (key x) (key y))

  ties_are : (x y : X) → ties lower x y ≡ has (key x) y
  ties_are x y = by (nat_lt (key x) (key y)) (nat_lt (key y) (key x)) ((key x) == (key y)) refl refl refl where
    by : (b c d : Bool) → nat_lt (key x) (key y) ≡ b → nat_lt (key y) (key x) ≡ c → ((key x) == (key y)) ≡ d
        → ties lower x y ≡ ((key x) == (key y))
    by b c d e f g = grind (arith, nat_tests)

  tied_with : (x : X) (items : List X) → filter (ties lower x) items ≡ with (key x) items
  tied_with x items = ap (λ test. filter test items) (fun_ext (ties_are x))

  -- the items of a key, where a sort leaves those that tie
  kept_with : (x : X) (xs ys : List X) → IsStableByKey key nat_cmp xs ys → with (key x) ys ≡ with (key x) xs
  kept_with x xs ys stable = sym (tied_with x ys) ∙ stable x ∙ tied_with x xs

  -- A stable sort by the keys puts the items by their keys.
  pub sorted_are : (xs ys : List X)
      → IsNonDecreasingBy key ys
      → IsStableByKey key nat_cmp xs ys
      → ys ≡ by_key key xs
  sorted_are xs ys up stable =
      one_list ys (by_key key xs) (climbs ys up) (climb_all xs) (λ v. kept_with v xs ys stable ∙ sym (with_all (key v) xs))
