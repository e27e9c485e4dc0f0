-- The place of a name among texts.
use Rattle.std.proofs.Common.{◌≡◌, ◌∙◌, ◌+◌, ◌<◌, ℕ, Bool, true, false, List, [], ◌∷◌, ◌++◌, length, map, ap, ap₂, sym, refl, arith}
use Rattle.std.specs.Prelude.{◌||◌, IsSome, Option, Some, None, if◌then◌else◌, position}
use Rattle.std.specs.Option.{option_to_list}
use Rattle.std.specs.List.{list_any}
use Rattle.std.specs.List.{position_from}
use Rattle.std.proofs.lemmas.Iterator.Adapters.{position_from-zero}
use Rattle.std.specs.Str.{bytes_eq}
use Rattle.std.proofs.lemmas.Slice.Eq.{bytes_eq-Decides}
use Rattle.names.specs.Names.{place_from, place_in}

never : true ≡ false → ⊥
never h = cc

-- the two orders of a comparison
pub flipped : (a b : List ℕ) → bytes_eq a b ≡ bytes_eq b a
flipped a b = by_test (bytes_eq a b) (bytes_eq b a) refl refl
  where
    same : (x y : List ℕ) → bytes_eq x y ≡ true → bytes_eq y x ≡ true
    same x y e = (bytes_eq-Decides y x).1 (sym ((bytes_eq-Decides x y).0 e))

    by_test : (t u : Bool) → bytes_eq a b ≡ t → bytes_eq b a ≡ u → t ≡ u
    by_test true true p q = refl
    by_test false false p q = refl
    by_test true false p q = absurd (never (sym (same a b p) ∙ q))
    by_test false true p q = absurd (never (sym (same b a q) ∙ p))

-- the first of the keys that is the name
from_is : {A : Type 0} (text : A → List ℕ) (name : List ℕ) (k : ℕ) (xs : List A) → position_from (λ x. bytes_eq name (text x)) k xs ≡ place_from k name (map text xs)
from_is text name k [] = refl
from_is text name k (x ∷ xs) =
    ap₂ (λ (t : Bool) (o : Option ℕ). if t then Some k else o) (flipped name (text x)) (from_is text name (k + 1) xs)

pub place_is : {A : Type 0} (text : A → List ℕ) (name : List ℕ) (xs : List A) → position (λ x. bytes_eq name (text x)) xs ≡ place_in name (map text xs)
place_is text name xs = position_from-zero (λ x. bytes_eq name (text x)) xs ∙ from_is text name 0 xs

some_not : (k : ℕ) → Some k ≡ None → ⊥
some_not k e = cc

-- a name that has no place is none of the keys
absent_from : {A : Type 0} (text : A → List ℕ) (name : List ℕ) (k : ℕ) (xs : List A) → place_from k name (map text xs) ≡ None → list_any (λ x. bytes_eq name (text x)) xs ≡ false
absent_from text name k [] e = refl
absent_from text name k (x ∷ xs) e = by_test (bytes_eq (text x) name) refl e (absent_from text name (k + 1) xs)
  where
    by_test : (t : Bool) → bytes_eq (text x) name ≡ t → (if t then Some k else place_from (k + 1) name (map text xs)) ≡ None
        → (place_from (k + 1) name (map text xs) ≡ None → list_any (λ y. bytes_eq name (text y)) xs ≡ false)
        → (bytes_eq name (text x) || list_any (λ y. bytes_eq name (text y)) xs) ≡ false
    by_test true is g next = absurd (some_not k g)
    by_test false is g next = ap (λ (t : Bool). t || list_any (λ y. bytes_eq name (text y)) xs) (flipped name (text x) ∙ is) ∙ next g

map_more : {A : Type 0} (text : A → List ℕ) (xs : List A) (x : A) → map text (xs ++ x ∷ []) ≡ map text xs ++ text x ∷ []
map_more text [] x = refl
map_more text (y ∷ xs) x = ap (λ (r : List (List ℕ)). text y ∷ r) (map_more text xs x)

-- the keys with one more, which isn't there yet
pub added : {A : Type 0} (text : A → List ℕ) (name : List ℕ) (xs ys : List A) (x : A) → text x ≡ name → place_in name (map text xs) ≡ None
    → ys ≡ (if list_any (λ y. bytes_eq (text x) (text y)) xs then xs else xs ++ x ∷ []) → map text ys ≡ map text xs ++ name ∷ []
added text name xs ys x is none e =
    let absent : list_any (λ y. bytes_eq (text x) (text y)) xs ≡ false = ap (λ (n : List ℕ). list_any (λ y. bytes_eq n (text y)) xs) is ∙ absent_from text name 0 xs none in
    ap (map text) (e ∙ ap (λ (t : Bool). if t then xs else xs ++ x ∷ []) absent) ∙ map_more text xs x ∙ ap (λ (n : List ℕ). map text xs ++ n ∷ []) is

pub grown : {A : Type 0} (text : A → List ℕ) (name : List ℕ) (names : List (List ℕ)) (xs ys : List A) (x : A) → map text xs ≡ names → text x ≡ name → place_in name names ≡ None
    → ys ≡ (if list_any (λ y. bytes_eq (text x) (text y)) xs then xs else xs ++ x ∷ []) → map text ys ≡ names ++ name ∷ []
grown text name names xs ys x known is none e =
    added text name xs ys x is (ap (place_in name) known ∙ none) e ∙ ap (λ (r : List (List ℕ)). r ++ name ∷ []) known

pub map_length : {A : Type 0} (text : A → List ℕ) (xs : List A) → length (map text xs) ≡ length xs
map_length text [] = refl
map_length text (x ∷ xs) = let more = map_length text xs in omega (arith, more)

-- what stands before the last name
front_of : (a b : List (List ℕ)) (x y : List ℕ) → a ++ x ∷ [] ≡ b ++ y ∷ [] → a ≡ b
front_of [] [] x y e = refl
front_of [] (b ∷ bs) x y e = absurd (too_long bs (ap length e))
  where
    too_long : (cs : List (List ℕ)) → length (x ∷ []) ≡ length (b ∷ (cs ++ y ∷ [])) → ⊥
    too_long [] e = omega (arith, e)
    too_long (c ∷ cs) e = omega (arith, e)
front_of (a ∷ more) [] x y e = absurd (too_long more (ap length e))
  where
    too_long : (cs : List (List ℕ)) → length (a ∷ (cs ++ x ∷ [])) ≡ length (y ∷ []) → ⊥
    too_long [] e = omega (arith, e)
    too_long (c ∷ cs) e = omega (arith, e)
front_of (a ∷ more) (b ∷ bs) x y e = heads a b (more ++ x ∷ []) (bs ++ y ∷ []) e (front_of more bs x y)
  where
    heads : (c d : List ℕ) (cs ds : List (List ℕ)) → c ∷ cs ≡ d ∷ ds → (cs ≡ ds → more ≡ bs) → c ∷ more ≡ d ∷ bs
    heads c d cs ds is next = let tail : cs ≡ ds = cc in let rest : more ≡ bs = next tail in let head : c ≡ d = cc in cc

-- the names after the last key was taken out
pub shrunk : {A : Type 0} (text : A → List ℕ) (old new : List A) (last : Option A) (now names : List (List ℕ)) (name : List ℕ) → old ≡ new ++ option_to_list last → (0 < length old → IsSome last)
    → map text old ≡ now → now ≡ names ++ name ∷ [] → map text new ≡ names
shrunk text old new None now names name e some is was = absurd (no (some (positive (length old) (length names) (sym (map_length text old) ∙ ap length (is ∙ was) ∙ snoc names))))
  where
    no : false ≡ true → ⊥
    no h = never (sym h)

    snoc : (ns : List (List ℕ)) → length (ns ++ name ∷ []) ≡ length ns + 1
    snoc [] = refl
    snoc (n ∷ ns) = let more = snoc ns in omega (arith, more)

    positive : (m n : ℕ) → m ≡ n + 1 → 0 < m
    positive m n e = omega (arith, e)
shrunk text old new (Some x) now names name e some is was = front_of (map text new) names (text x) name (sym (map_more text new x) ∙ sym (ap (map text) e) ∙ is ∙ was)
