-- Numbers by first appearance, by the tables of what is listed.
use Rattle.std.proofs.Common.{◌≡◌, ℕ, suc, ◌+◌, Bool, true, false, cond, not, List, [], ◌∷◌, ◌++◌, length, refl, sym, ap, ap₂, ◌∙◌, arith}
use Rattle.std.specs.Prelude.{◌==◌, Option, Some, None, is_some}
use Rattle.std.specs.Option.{option_map}
use Rattle.std.specs.Ordering.{nat_cmp}
use Rattle.std.specs.Cmp.{unsigned_tied}
use Rattle.std.specs.BTreeSet.{BTreeSet, contains, Updates}
use Rattle.std.proofs.lemmas.Bool.{eqb-true}
use Rattle.pcode_model.specs.Spaces.{or}
use Rattle.cmeaning.specs.Places.{place}
use Rattle.cmeaning.proofs.Places.{put}
use Rattle.naming.specs.Listed.{is_listed, with_one, place_in}
use Rattle.naming.specs.Places.{is_same, HasPlaces, HasAll}

some_map : (o : Option ℕ) → is_some (option_map suc o) ≡ is_some o
some_map None = refl
some_map (Some n) = refl

listed_is : (xs : List ℕ) (x : ℕ) → is_listed x xs ≡ is_some (place (is_same x) xs)
listed_is [] x = refl
listed_is (y ∷ ys) x = by_test (y == x) (listed_is ys x)
  where
    by_test : (b : Bool)
        → is_listed x ys ≡ is_some (place (is_same x) ys)
        → or b (is_listed x ys) ≡ is_some (cond b (Some 0) (option_map suc (place (is_same x) ys)))
    by_test true next = refl
    by_test false next = next ∙ sym (some_map (place (is_same x) ys))

-- a place, or one behind so many
abbrev or_behind : Option ℕ → ℕ → ℕ
or_behind (Some n) end = n
or_behind None end = end

suc_behind : (o : Option ℕ) (end : ℕ) → or_behind (option_map suc o) (suc end) ≡ suc (or_behind o end)
suc_behind None end = refl
suc_behind (Some n) end = refl

place_is : (xs : List ℕ) (x : ℕ) → place_in xs x ≡ or_behind (place (is_same x) xs) (x + length xs)
place_is [] x = let e : x ≡ x + 0 = omega arith in e
place_is (y ∷ ys) x = by_test (y == x) (place_is ys x)
  where
    more : x + suc (length ys) ≡ suc (x + length ys)
    more = omega arith

    rest : Option ℕ
    rest = option_map suc (place (is_same x) ys)

    by_test : (b : Bool)
        → place_in ys x ≡ or_behind (place (is_same x) ys) (x + length ys)
        → cond b 0 (suc (place_in ys x)) ≡ or_behind (cond b (Some 0) rest) (x + suc (length ys))
    by_test true next = refl
    by_test false next =
        ap suc next ∙ sym (suc_behind (place (is_same x) ys) (x + length ys)) ∙ ap (or_behind rest) (sym more)

-- ---- numbers

module _ (xs : List ℕ) (x : ℕ) (found : Option ℕ) (is : found ≡ place (is_same x) xs) where
  pub known : is_some found ≡ true → xs ≡ with_one xs x
  known has = ap (λ b. cond b xs (xs ++ x ∷ [])) (sym has ∙ ap is_some is ∙ sym (listed_is xs x))

  pub unknown : is_some found ≡ false → xs ++ x ∷ [] ≡ with_one xs x
  unknown hasnt = ap (λ b. cond b xs (xs ++ x ∷ [])) (sym hasnt ∙ ap is_some is ∙ sym (listed_is xs x))

  pub at_place : (n : ℕ) → found ≡ Some n → n ≡ place_in xs x
  at_place n has = ap (λ (o : Option ℕ). or_behind o (x + length xs)) (sym has ∙ is) ∙ sym (place_is xs x)

  pub at_no_place : found ≡ None → x + length xs ≡ place_in xs x
  at_no_place none = ap (λ (o : Option ℕ). or_behind o (x + length xs)) (sym none ∙ is) ∙ sym (place_is xs x)

nothing_there : (o : Option ℕ) → is_some o ≡ false → o ≡ None
nothing_there None hasnt = refl
nothing_there (Some n) hasnt = absurd (cc)

-- a table with one more place
pub added : (xs : List ℕ) (old new : ℕ → Option ℕ) (x end : ℕ)
    → end ≡ length xs
    → HasPlaces xs old
    → is_some (old x) ≡ false
    → ((y : ℕ) → new y ≡ cond (x == y) (Some end) (old y))
    → HasPlaces (xs ++ x ∷ []) new
added xs old new x end last table hasnt updates =
    put is_same xs x old table new
    (λ y. updates y ∙ ap (λ (k : ℕ). cond (x == y) (Some k) (old y)) last)
    (λ y hit. ap old (sym (eqb-true x y hit)) ∙ nothing_there (old x) hasnt)

-- ---- addresses

module _ (xs : List ℕ) (set : BTreeSet ℕ) (x : ℕ) (holds : HasAll xs set) where
  pub stays : not (contains nat_cmp set x) ≡ false → xs ≡ with_one xs x
  stays has = ap (λ b. cond b xs (xs ++ x ∷ [])) (sym (in_not (contains nat_cmp set x) has) ∙ holds x)
    where
      in_not : (b : Bool) → not b ≡ false → b ≡ true
      in_not true h = refl
      in_not false h = absurd (cc)

  pub grows : not (contains nat_cmp set x) ≡ true → xs ++ x ∷ [] ≡ with_one xs x
  grows hasnt = ap (λ b. cond b xs (xs ++ x ∷ [])) (sym (in_not (contains nat_cmp set x) hasnt) ∙ holds x)
    where
      in_not : (b : Bool) → not b ≡ true → b ≡ false
      in_not true h = absurd (cc)
      in_not false h = refl

  listed_more : (ys : List ℕ) (a : ℕ) → is_listed a (ys ++ x ∷ []) ≡ or (x == a) (is_listed a ys)
  listed_more [] a = refl
  listed_more (y ∷ ys) a = ap (or (y == a)) (listed_more ys a) ∙ turned (y == a) (x == a) (is_listed a ys)
    where
      turned : (b c d : Bool) → or b (or c d) ≡ or c (or b d)
      turned true true d = refl
      turned true false d = refl
      turned false c d = refl

  pub holds_more : (new : BTreeSet ℕ) → Updates nat_cmp set new x true → HasAll (xs ++ x ∷ []) new
  holds_more new updates a =
      updates.0 a
      ∙ ap₂ (λ (b c : Bool). cond b true c) (unsigned_tied x a) (holds a)
      ∙ as_or (x == a) (is_listed a xs)
      ∙ sym (listed_more xs a)
    where
      as_or : (b c : Bool) → cond b true c ≡ or b c
      as_or true c = refl
      as_or false c = refl

  pub holds_same : (new : BTreeSet ℕ) → contains nat_cmp set x ≡ true → Updates nat_cmp set new x true → HasAll xs new
  holds_same new has updates a =
      updates.0 a
      ∙ ap₂ (λ (b c : Bool). cond b true c) (unsigned_tied x a) (holds a)
      ∙ as_is (x == a) (is_listed a xs) (λ hit. ap (λ y. is_listed y xs) (sym (eqb-true x a hit)) ∙ sym (holds x) ∙ has)
    where
      as_is : (b c : Bool) → (b ≡ true → c ≡ true) → cond b true c ≡ c
      as_is true c h = sym (h refl)
      as_is false c h = refl
