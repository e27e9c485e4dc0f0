-- What follows where a test doesn't hold, and lists that grow by one.
use Rattle.std.proofs.Common.{◌≡◌, ◌<◌, ◌≤◌, ◌+◌, ℕ, Bool, true, false, List, [], ◌∷◌, ◌++◌, length, refl, arith}
use Rattle.std.specs.Prelude.{◌==◌, ◌||◌, nat_le, not, Option, Some, None, IfSome}
use Rattle.std.specs.List.{AllByRecursion}
use Rattle.std.specs.Option.{is_none, is_some}
use Rattle.std.proofs.lemmas.Bool.{not-false, eqb-true}
use Rattle.std.proofs.lemmas.Bool.Decides.{nat_tests}

pub never : true ≡ false → ⊥
never h = cc

pub never_back : false ≡ true → ⊥
never_back h = cc

pub left_false : (a b : Bool) → (a || b) ≡ false → a ≡ false
left_false true b h = h
left_false false b h = refl

pub right_false : (a b : Bool) → (a || b) ≡ false → b ≡ false
right_false true b h = absurd (never h)
right_false false b h = h

pub le_false : (a b : ℕ) → nat_le a b ≡ false → b < a
le_false a b h = grind (arith, nat_tests)

pub zero_false : (a : ℕ) → (a == 0) ≡ false → 0 < a
zero_false a h = grind (arith, nat_tests)

pub no_length : (n : ℕ) → not (n == 0) ≡ false → n ≡ 0
no_length n h = eqb-true n 0 (not-false _ h)

pub if_none : {A : Type 0} (P : A → Type 0) (o : Option A) → is_some o ≡ false → IfSome o P
if_none P None h = tt
if_none P (Some a) h = absurd (never h)

pub none_is : {A : Type 0} (o : Option A) → is_some o ≡ false → o ≡ None
none_is None h = refl
none_is (Some a) h = absurd (never h)

pub not_both : {A : Type 0} (o : Option A) → is_none o ≡ false → is_some o ≡ false → ⊥
not_both None e g = never e
not_both (Some x) e g = never g

pub all_map : {A : Type 0} (P Q : A → Type 0) → ((a : A) → P a → Q a)
    → (xs : List A) → AllByRecursion P xs → AllByRecursion Q xs
all_map P Q f [] h = tt
all_map P Q f (x ∷ xs) h = (f x h.0, all_map P Q f xs h.1)

pub some_map : {A : Type 0} (P Q : A → Type 0) → ((a : A) → P a → Q a) → (o : Option A) → IfSome o P → IfSome o Q
some_map P Q f None h = tt
some_map P Q f (Some a) h = f a h

-- ---- one more

pub all_snoc : {A : Type 0} (P : A → Type 0) (xs : List A) (y : A)
    → AllByRecursion P xs → P y → AllByRecursion P (xs ++ y ∷ [])
all_snoc P [] y h p = (p, tt)
all_snoc P (x ∷ xs) y h p = (h.0, all_snoc P xs y h.1 p)

-- another last one
pub all_last : {A : Type 0} (P : A → Type 0) (xs : List A) (x y : A)
    → (P x → P y)
    → AllByRecursion P (xs ++ x ∷ [])
    → AllByRecursion P (xs ++ y ∷ [])
all_last P [] x y f h = (f h.0, tt)
all_last P (a ∷ xs) x y f h = (h.0, all_last P xs x y f h.1)

pub length_snoc : {A : Type 0} (xs : List A) (y : A) → length (xs ++ y ∷ []) ≡ length xs + 1
length_snoc [] y = refl
length_snoc (x ∷ xs) y = let more = length_snoc xs y in omega (arith, more)

pub le_snoc : {A : Type 0} (xs : List A) (y : A) → length xs ≤ length (xs ++ y ∷ [])
le_snoc xs y = let one = length_snoc xs y in omega (arith, one)

pub some_length : {A : Type 0} (xs : List A) (y : A) → length (xs ++ y ∷ []) ≡ 0 → ⊥
some_length xs y h = let one = length_snoc xs y in omega (arith, one, h)
