-- Members of lists, and places by their parts.
use Rattle.std.proofs.Common.{◌≡◌, ◌∙◌, ◌+◌, ◌<◌, ℕ, zero, suc, List, [], ◌∷◌, ◌++◌, length, get_or, drop, ◌⊎◌, inl, inr, Some, ap, sym, subst}
use Rattle.std.specs.Prelude.{slice_get}
use Rattle.std.proofs.lemmas.List.{drop_more}
use Rattle.std.specs.List.{AllByRecursion}
use Rattle.pcode_model.specs.declared.listing.Place.{Place}
use Rattle.pcode_model.specs.Places.{place}
use Rattle.pcode_model.specs.Flow.{IsIn}

-- ---- lists that stand one behind the other

-- a member of the first list is one of both
pub in_front : {A : Type 0} (xs ys : List A) (x : A) → IsIn x xs → IsIn x (xs ++ ys)
in_front [] ys x h = absurd h
in_front (y ∷ xs) ys x (inl e) = inl e
in_front (y ∷ xs) ys x (inr h) = inr (in_front xs ys x h)

-- a member of the second list is one of both
pub behind : {A : Type 0} (xs ys : List A) (x : A) → IsIn x ys → IsIn x (xs ++ ys)
behind [] ys x h = h
behind (y ∷ xs) ys x h = inr (behind xs ys x h)

-- a member of both is one of the first list or of the second
pub in_either : {A : Type 0} (xs ys : List A) (x : A) → IsIn x (xs ++ ys) → IsIn x xs ⊎ IsIn x ys
in_either [] ys x h = inr h
in_either (y ∷ xs) ys x (inl e) = inl (inl e)
in_either (y ∷ xs) ys x (inr h) = elim (in_either xs ys x h) [ inl p ↦ inl (inr p) | inr q ↦ inr q ]

-- ---- one member

-- what is left of a list, by its first item
pub rest_at : {A : Type 0} (xs : List A) (i : ℕ) (x : A)
    → i < length xs
    → x ≡ get_or xs i x
    → drop i xs ≡ x ∷ drop (i + 1) xs
rest_at xs i x more is = drop_more xs i x more ∙ ap (λ y. y ∷ drop (i + 1) xs) (sym is)

-- what stands at a number is a member
pub member_at : {A : Type 0} (xs : List A) (n : ℕ) (x : A) → slice_get xs n ≡ Some x → IsIn x xs
member_at [] n x e = absurd (cc)
member_at (y ∷ xs) zero x e = let same : y ≡ x = cc in inl (sym same)
member_at (y ∷ xs) (suc n) x e = inr (member_at xs n x e)

-- what holds of all holds of a member
pub of_member : {A : Type 0} (P : A → Type 0) (x : A) (xs : List A) → AllByRecursion P xs → IsIn x xs → P x
of_member P x [] all is = absurd is
of_member P x (y ∷ xs) all (inl e) = subst P (sym e) all.0
of_member P x (y ∷ xs) all (inr is) = of_member P x xs all.1 is

-- ---- places

-- places with one address and one index are the same
pub same_place : (p q : Place) → p.address ≡ q.address → p.index ≡ q.index → p ≡ q
same_place p q e f = ap (λ a. place a p.index) e ∙ ap (λ n. place q.address n) f
