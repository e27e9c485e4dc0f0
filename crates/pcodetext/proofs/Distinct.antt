-- Names and addresses that differ from those before them.
use Rattle.std.proofs.Common.{◌≡◌, ◌+◌, ℕ, Bool, true, false, List, [], ◌∷◌, ◌++◌, refl, map}
use Rattle.std.specs.Prelude.{◌==◌, Option, Some, None, if◌then◌else◌}
use Rattle.std.specs.List.{AllByRecursion}
use Rattle.std.specs.Option.{is_some, option_to_list}
use Rattle.std.specs.Str.{bytes_eq}
use Rattle.std.proofs.lemmas.Bool.Decides.{Decides-eqb, not_from_Decides}
use Rattle.std.proofs.lemmas.Slice.Eq.{bytes_eq-Decides}
use Rattle.listing_lines.specs.Text.{Line}
use Rattle.names.specs.Names.{place_from, place_in}
use Rattle.pcode_model.specs.WellFormed.{AreDistinct}
use Rattle.pcodetext.proofs.Passing.{all_snoc, never}

pub other_text : (a b : Line) → bytes_eq a b ≡ false → a ≡ b → ⊥
other_text a b e = not_from_Decides (bytes_eq a b) (bytes_eq-Decides a b) e

pub other_number : (a b : ℕ) → (a == b) ≡ false → a ≡ b → ⊥
other_number a b e = not_from_Decides (a == b) (Decides-eqb a b) e

-- a name without a place is the name of none
other_from : {A : Type 0} (text : A → Line) (name : Line) (k : ℕ) (xs : List A)
    → is_some (place_from k name (map text xs)) ≡ false
    → AllByRecursion (λ x. text x ≡ name → ⊥) xs
other_from text name k [] e = tt
other_from text name k (x ∷ xs) e = by_test (bytes_eq (text x) name) refl e (other_from text name (k + 1) xs)
  where
    by_test : (t : Bool)
        → bytes_eq (text x) name ≡ t
        → is_some (if t then Some k else place_from (k + 1) name (map text xs)) ≡ false
        → (is_some (place_from (k + 1) name (map text xs)) ≡ false → AllByRecursion (λ y. text y ≡ name → ⊥) xs)
        → (text x ≡ name → ⊥) × AllByRecursion (λ y. text y ≡ name → ⊥) xs
    by_test true is g on = absurd (never g)
    by_test false is g on = (other_text (text x) name is, on g)

pub others : {A : Type 0} (text : A → Line) (name : Line) (xs : List A)
    → is_some (place_in name (map text xs)) ≡ false
    → AllByRecursion (λ x. text x ≡ name → ⊥) xs
others text name xs e = other_from text name 0 xs e

pub distinct_snoc : {A K : Type 0} (key : A → K) (xs : List A) (y : A)
    → AreDistinct key xs
    → AllByRecursion (λ x. key x ≡ key y → ⊥) xs
    → AreDistinct key (xs ++ y ∷ [])
distinct_snoc key [] y h p = (tt, tt)
distinct_snoc key (x ∷ xs) y h p = (all_snoc (λ z. key x ≡ key z → ⊥) xs y h.0 p.0, distinct_snoc key xs y h.1 p.1)

-- one more after what may be missing and a list
pub distinct_after : {A K : Type 0} (key : A → K) (o : Option A) (xs : List A) (y : A)
    → AreDistinct key (option_to_list o ++ xs)
    → AllByRecursion (λ x. key x ≡ key y → ⊥) (option_to_list o ++ xs)
    → AreDistinct key (option_to_list o ++ (xs ++ y ∷ []))
distinct_after key None xs y h p = distinct_snoc key xs y h p
distinct_after key (Some x) xs y h p = distinct_snoc key (x ∷ xs) y h p
