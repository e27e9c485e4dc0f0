-- Numbers that are listed once each, and what is found by them.
use Rattle.std.proofs.Common.{◌≡◌, ℕ, zero, suc, ◌+◌, ◌<◌, ◌≤◌, Bool, true, false, cond, List, [], ◌∷◌, ◌++◌, length, refl, sym, ap, ap₂, ◌∙◌, subst, Option, Some, arith}
use Rattle.std.specs.Prelude.{◌==◌, slice_get}
use Rattle.std.proofs.lemmas.Bool.{eqb-true}
use Rattle.std.proofs.lemmas.Bool.Decides.{nat_tests}
use Rattle.pcode_model.specs.Spaces.{or}
use Rattle.pcode_laws.proofs.Rules.{neither}
use Rattle.naming.specs.Listed.{is_listed, with_one, place_in}
use Rattle.naming.specs.Named.{with_found, all_found}

pub turned : (x y : ℕ) → (x == y) ≡ (y == x)
turned x y = grind (arith, nat_tests)

-- ---- a fact of all that is listed

abbrev pub All : (ℕ → Type 0) → List ℕ → Type 0
All P [] = Unit {0}
All P (x ∷ xs) = P x × All P xs

pub all_map : (P Q : ℕ → Type 0) (xs : List ℕ) → ((x : ℕ) → P x → Q x) → All P xs → All Q xs
all_map P Q [] f h = tt
all_map P Q (x ∷ xs) f h = (f x h.0, all_map P Q xs f h.1)

all_more : (P : ℕ → Type 0) (xs : List ℕ) (x : ℕ) → All P xs → P x → All P (xs ++ x ∷ [])
all_more P [] x h p = (p, tt)
all_more P (y ∷ ys) x h p = (h.0, all_more P ys x h.1 p)

pub all_one : (P : ℕ → Type 0) (xs : List ℕ) (x : ℕ) → All P xs → P x → All P (with_one xs x)
all_one P xs x h p = by_test (is_listed x xs)
  where
    by_test : (b : Bool) → All P (cond b xs (xs ++ x ∷ []))
    by_test true = h
    by_test false = all_more P xs x h p

pub of_listed : (P : ℕ → Type 0) (xs : List ℕ) (x : ℕ) → All P xs → is_listed x xs ≡ true → P x
of_listed P [] x h listed = absurd (cc)
of_listed P (y ∷ ys) x h listed = by_test (y == x) refl listed (λ g. of_listed P ys x h.1 g)
  where
    by_test : (b : Bool) → (y == x) ≡ b → or b (is_listed x ys) ≡ true → (is_listed x ys ≡ true → P x) → P x
    by_test true same g next = subst P (eqb-true y x same) h.0
    by_test false same g next = next g

-- ---- each number once

abbrev pub AreDistinct : List ℕ → Type 0
AreDistinct [] = Unit {0}
AreDistinct (x ∷ xs) = (is_listed x xs ≡ false) × AreDistinct xs

pub listed_more : (xs : List ℕ) (x a : ℕ) → is_listed a (xs ++ x ∷ []) ≡ or (is_listed a xs) (x == a)
listed_more [] x a = or_false (x == a)
  where
    or_false : (b : Bool) → or b false ≡ b
    or_false true = refl
    or_false false = refl
listed_more (y ∷ ys) x a = ap (or (y == a)) (listed_more ys x a) ∙ grouped (y == a) (is_listed a ys) (x == a)
  where
    grouped : (b c d : Bool) → or b (or c d) ≡ or (or b c) d
    grouped true c d = refl
    grouped false c d = refl

distinct_more : (xs : List ℕ) (x : ℕ) → AreDistinct xs → is_listed x xs ≡ false → AreDistinct (xs ++ x ∷ [])
distinct_more [] x h new = (refl, tt)
distinct_more (y ∷ ys) x h new =
    let parts = neither (y == x) (is_listed x ys) new in
    let other : (x == y) ≡ false = turned x y ∙ parts.0 in
    (listed_more ys x y ∙ ap₂ or h.0 other, distinct_more ys x h.1 parts.1)

pub distinct_one : (xs : List ℕ) (x : ℕ) → AreDistinct xs → AreDistinct (with_one xs x)
distinct_one xs x h = by_test (is_listed x xs) refl
  where
    by_test : (b : Bool) → is_listed x xs ≡ b → AreDistinct (cond b xs (xs ++ x ∷ []))
    by_test true is = h
    by_test false is = distinct_more xs x h is

-- how many of k numbers from a on are listed
abbrev many : List ℕ → ℕ → ℕ → ℕ
many xs a zero = 0
many xs a (suc k) = cond (is_listed (a + k) xs) 1 0 + many xs a k

many_none : (a k : ℕ) → many [] a k ≡ 0
many_none a zero = refl
many_none a (suc k) = let m = many_none a k in omega (arith, m)

many_few : (xs : List ℕ) (a k : ℕ) → many xs a k ≤ k
many_few xs a zero = omega arith
many_few xs a (suc k) = let m = many_few xs a k in by_test (is_listed (a + k) xs) m
  where
    by_test : (b : Bool) → many xs a k ≤ k → cond b 1 0 + many xs a k ≤ suc k
    by_test true m = omega (arith, m)
    by_test false m = omega (arith, m)

many_past : (x : ℕ) (xs : List ℕ) (a k : ℕ) → a + k ≤ x → many (x ∷ xs) a k ≡ many xs a k
many_past x xs a zero past = refl
many_past x xs a (suc k) past =
    let other : (x == (a + k)) ≡ false = grind (arith, nat_tests, past) in
    let before : a + k ≤ x = omega (arith, past) in
    ap₂ (λ (b : Bool) (m : ℕ). cond (or b (is_listed (a + k) xs)) 1 0 + m) other (many_past x xs a k before)

more : (c m n : ℕ) → m ≡ suc n → c + m ≡ suc (c + n)
more c m n is = omega (arith, is)

many_in : (x : ℕ) (xs : List ℕ) (a k : ℕ)
    → is_listed x xs ≡ false
    → a ≤ x
    → x < a + k
    → many (x ∷ xs) a k ≡ suc (many xs a k)
many_in x xs a zero new from to = absurd (omega (arith, from, to))
many_in x xs a (suc k) new from to =
    by_test (x == (a + k)) refl (λ low. many_in x xs a k new from low)
  where
    by_test : (b : Bool)
        → (x == (a + k)) ≡ b
        → (x < a + k → many (x ∷ xs) a k ≡ suc (many xs a k))
        → cond (or b (is_listed (a + k) xs)) 1 0 + many (x ∷ xs) a k
        ≡ suc (cond (is_listed (a + k) xs) 1 0 + many xs a k)
    by_test true same next =
        let e : x ≡ a + k = eqb-true x (a + k) same in
        let not_yet : is_listed (a + k) xs ≡ false = ap (λ n. is_listed n xs) (sym e) ∙ new in
        let past : a + k ≤ x = omega (arith, e) in
        let rest = many_past x xs a k past in
        let sum : 1 + many (x ∷ xs) a k ≡ suc (0 + many xs a k) = omega (arith, rest) in
        sum ∙ ap (λ b. suc (cond b 1 0 + many xs a k)) (sym not_yet)
    by_test false same next =
        let low : x < a + k = grind (arith, nat_tests, same, to) in
        more (cond (is_listed (a + k) xs) 1 0) (many (x ∷ xs) a k) (many xs a k) (next low)

abbrev pub IsWithin : ℕ → ℕ → ℕ → Type 0
IsWithin a k x = (a ≤ x) × (x < a + k)

many_all : (xs : List ℕ) (a k : ℕ) → AreDistinct xs → All (IsWithin a k) xs → length xs ≡ many xs a k
many_all [] a k distinct within = sym (many_none a k)
many_all (x ∷ xs) a k distinct within =
    ap suc (many_all xs a k distinct.1 within.1) ∙ sym (many_in x xs a k distinct.0 within.0.0 within.0.1)

-- k numbers from a on, each listed once, are at most k
pub are_few : (xs : List ℕ) (a k : ℕ) → AreDistinct xs → All (IsWithin a k) xs → length xs ≤ k
are_few xs a k distinct within =
    let same = many_all xs a k distinct within in
    let few = many_few xs a k in
    omega (arith, same, few)

-- ---- what is found

abbrev pub IsFound : {A : Type 0} → (ℕ → Option A) → ℕ → Type 0
IsFound {A} find n = (x : A) × (find n ≡ Some x)

pub found_long : {A : Type 0} (find : ℕ → Option A) (ns : List ℕ)
    → All (IsFound find) ns
    → length (all_found find ns) ≡ length ns
found_long find [] h = refl
found_long {A} find (n ∷ ns) h =
    ap (λ (o : Option A). length (with_found o (all_found find ns))) h.0.1 ∙ ap suc (found_long find ns h.1)

-- what is found by a number stands at the number's place
pub found_at : {A : Type 0} (find : ℕ → Option A) (ns : List ℕ) (x : ℕ)
    → All (IsFound find) ns
    → is_listed x ns ≡ true
    → slice_get (all_found find ns) (place_in ns x) ≡ find x
found_at find [] x h listed = absurd (cc)
found_at {A} find (n ∷ ns) x h listed =
    ap (λ (o : Option A). slice_get (with_found o (all_found find ns)) (place_in (n ∷ ns) x)) h.0.1
    ∙ by_test (n == x) refl listed (λ g. found_at find ns x h.1 g)
  where
    by_test : (b : Bool)
        → (n == x) ≡ b
        → or b (is_listed x ns) ≡ true
        → (is_listed x ns ≡ true → slice_get (all_found find ns) (place_in ns x) ≡ find x)
        → slice_get (h.0.0 ∷ all_found find ns) (cond b 0 (suc (place_in ns x))) ≡ find x
    by_test true same g next = sym h.0.1 ∙ ap find (eqb-true n x same)
    by_test false same g next = next g
