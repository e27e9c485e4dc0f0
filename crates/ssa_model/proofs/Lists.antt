-- What stands before an op, after another op was put in or taken out.
use Rattle.std.proofs.Common.{◌≡◌, ℕ, List, [], ◌∷◌, ◌⊎◌, inl, inr, refl, sym, ap, ◌∙◌, subst, cond}
use Rattle.std.proofs.lemmas.Bool.{cases_eq, eq-eqb}
use Rattle.node_lists.specs.Chains.{IsIn, removed}
use Rattle.node_lists.specs.Families.{inserted}
use Rattle.node_lists.proofs.Chains.{eqb_not}
use Rattle.ssa_model.specs.Paths.{before_op}

pub before_here : (x y : ℕ) (ys : List ℕ) → y ≡ x → before_op x (y ∷ ys) ≡ []
before_here x y ys e = ap (λ t. cond t [] (y ∷ before_op x ys)) (eq-eqb y x e)

pub before_far : (x y : ℕ) (ys : List ℕ) → (y ≡ x → ⊥) → before_op x (y ∷ ys) ≡ y ∷ before_op x ys
before_far x y ys n = ap (λ t. cond t [] (y ∷ before_op x ys)) (eqb_not y x n)

inserted_here : (x at y : ℕ) (ys : List ℕ) → y ≡ at → inserted x at (y ∷ ys) ≡ x ∷ y ∷ ys
inserted_here x at y ys e = ap (λ t. cond t (x ∷ y ∷ ys) (y ∷ inserted x at ys)) (eq-eqb y at e)

inserted_far : (x at y : ℕ) (ys : List ℕ) → (y ≡ at → ⊥) → inserted x at (y ∷ ys) ≡ y ∷ inserted x at ys
inserted_far x at y ys n = ap (λ t. cond t (x ∷ y ∷ ys) (y ∷ inserted x at ys)) (eqb_not y at n)

removed_here : (x y : ℕ) (ys : List ℕ) → y ≡ x → removed x (y ∷ ys) ≡ ys
removed_here x y ys e = ap (λ t. cond t ys (y ∷ removed x ys)) (eq-eqb y x e)

removed_far : (x y : ℕ) (ys : List ℕ) → (y ≡ x → ⊥) → removed x (y ∷ ys) ≡ y ∷ removed x ys
removed_far x y ys n = ap (λ t. cond t ys (y ∷ removed x ys)) (eqb_not y x n)

-- ---- an op that is put in

-- before the new op stands what stood before the op behind it
pub before_new : (x at : ℕ) (ys : List ℕ) → (IsIn x ys → ⊥) → before_op x (inserted x at ys) ≡ before_op at ys
before_new x at [] n = refl
before_new x at (y ∷ ys) n = by_case (cases_eq y at) (before_new x at ys (λ m. n (inr m)))
  where
    by_case : (y ≡ at) ⊎ (y ≡ at → ⊥)
        → before_op x (inserted x at ys) ≡ before_op at ys
        → before_op x (inserted x at (y ∷ ys)) ≡ before_op at (y ∷ ys)
    by_case (inl e) rest =
        ap (before_op x) (inserted_here x at y ys e)
        ∙ before_here x x (y ∷ ys) refl
        ∙ sym (before_here at y ys e)
    by_case (inr f) rest =
        ap (before_op x) (inserted_far x at y ys f)
        ∙ before_far x y (inserted x at ys) (λ e. n (inl (sym e)))
        ∙ ap (λ zs. y ∷ zs) rest
        ∙ sym (before_far at y ys f)

pub in_inserted : (x at v : ℕ) (ys : List ℕ) → IsIn v ys → IsIn v (inserted x at ys)
in_inserted x at v [] m = absurd m
in_inserted x at v (y ∷ ys) m = by_case (cases_eq y at) m (in_inserted x at v ys)
  where
    by_case : (y ≡ at) ⊎ (y ≡ at → ⊥)
        → IsIn v (y ∷ ys)
        → (IsIn v ys → IsIn v (inserted x at ys))
        → IsIn v (inserted x at (y ∷ ys))
    by_case (inl e) k rest = subst (IsIn v) (sym (inserted_here x at y ys e)) (inr k)
    by_case (inr f) (inl e) rest = subst (IsIn v) (sym (inserted_far x at y ys f)) (inl e)
    by_case (inr f) (inr k) rest = subst (IsIn v) (sym (inserted_far x at y ys f)) (inr (rest k))

-- what stood before another op still does
pub before_inserted : (x at z v : ℕ) (ys : List ℕ)
    → (x ≡ z → ⊥)
    → IsIn v (before_op z ys)
    → IsIn v (before_op z (inserted x at ys))
before_inserted x at z v [] far m = absurd m
before_inserted x at z v (y ∷ ys) far m = by_place (cases_eq y z) (cases_eq y at) (before_inserted x at z v ys far)
  where
    by_place : (y ≡ z) ⊎ (y ≡ z → ⊥)
        → (y ≡ at) ⊎ (y ≡ at → ⊥)
        → (IsIn v (before_op z ys) → IsIn v (before_op z (inserted x at ys)))
        → IsIn v (before_op z (inserted x at (y ∷ ys)))
    by_place (inl e) p rest = absurd (subst (IsIn v) (before_here z y ys e) m)
    by_place (inr n) (inl e) rest =
        subst (λ zs. IsIn v (before_op z zs)) (sym (inserted_here x at y ys e))
        (subst (IsIn v) (sym (before_far z x (y ∷ ys) far)) (inr m))
    by_place (inr n) (inr f) rest =
        subst (λ zs. IsIn v (before_op z zs)) (sym (inserted_far x at y ys f))
        (subst (IsIn v) (sym (before_far z y (inserted x at ys) n)) (behind (subst (IsIn v) (before_far z y ys n) m)))
      where
        behind : IsIn v (y ∷ before_op z ys) → IsIn v (y ∷ before_op z (inserted x at ys))
        behind (inl e) = inl e
        behind (inr k) = inr (rest k)

-- ---- an op that is taken out

pub in_removed : (x v : ℕ) (ys : List ℕ) → (v ≡ x → ⊥) → IsIn v ys → IsIn v (removed x ys)
in_removed x v [] far m = absurd m
in_removed x v (y ∷ ys) far m = by_case (cases_eq y x) m (in_removed x v ys far)
  where
    by_case : (y ≡ x) ⊎ (y ≡ x → ⊥)
        → IsIn v (y ∷ ys)
        → (IsIn v ys → IsIn v (removed x ys))
        → IsIn v (removed x (y ∷ ys))
    by_case (inl e) (inl h) rest = absurd (far (h ∙ e))
    by_case (inl e) (inr k) rest = subst (IsIn v) (sym (removed_here x y ys e)) k
    by_case (inr f) (inl h) rest = subst (IsIn v) (sym (removed_far x y ys f)) (inl h)
    by_case (inr f) (inr k) rest = subst (IsIn v) (sym (removed_far x y ys f)) (inr (rest k))

pub before_removed : (x z v : ℕ) (ys : List ℕ)
    → (v ≡ x → ⊥)
    → IsIn v (before_op z ys)
    → IsIn v (before_op z (removed x ys))
before_removed x z v [] far m = absurd m
before_removed x z v (y ∷ ys) far m = by_place (cases_eq y z) (cases_eq y x) (before_removed x z v ys far)
  where
    by_place : (y ≡ z) ⊎ (y ≡ z → ⊥)
        → (y ≡ x) ⊎ (y ≡ x → ⊥)
        → (IsIn v (before_op z ys) → IsIn v (before_op z (removed x ys)))
        → IsIn v (before_op z (removed x (y ∷ ys)))
    by_place (inl e) p rest = absurd (subst (IsIn v) (before_here z y ys e) m)
    by_place (inr n) (inl e) rest =
        subst (λ zs. IsIn v (before_op z zs)) (sym (removed_here x y ys e))
        (here (subst (IsIn v) (before_far z y ys n) m))
      where
        here : IsIn v (y ∷ before_op z ys) → IsIn v (before_op z ys)
        here (inl h) = absurd (far (h ∙ e))
        here (inr k) = k
    by_place (inr n) (inr f) rest =
        subst (λ zs. IsIn v (before_op z zs)) (sym (removed_far x y ys f))
        (subst (IsIn v) (sym (before_far z y (removed x ys) n)) (behind (subst (IsIn v) (before_far z y ys n) m)))
      where
        behind : IsIn v (y ∷ before_op z ys) → IsIn v (y ∷ before_op z (removed x ys))
        behind (inl h) = inl h
        behind (inr k) = inr (rest k)
