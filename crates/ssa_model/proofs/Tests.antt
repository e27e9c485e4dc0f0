-- Facts on small lists, by tests that compute.
use Rattle.std.proofs.Common.{◌≡◌, ℕ, zero, suc, ◌+◌, Bool, true, false, eqb, List, [], ◌∷◌, ◌++◌, inl, inr, Option, Some, None, refl, sym, ap, ◌∙◌, subst, cond, slice_get, arith, true≢false}
use Rattle.std.proofs.lemmas.Bool.{eq-eqb}
use Rattle.heap_nodes.proofs.Places.{none_some, some_same}
use Rattle.node_lists.specs.Chains.{IsIn, Apart}
use Rattle.ssa_model.specs.Outline.{OpForm}
use Rattle.ssa_model.specs.Formed.{is_join, no_join, JoinsFirst}

abbrev pub has : ℕ → List ℕ → Bool
has x [] = false
has x (y ∷ ys) = cond (eqb x y) true (has x ys)

abbrev pub all_apart : List ℕ → Bool
all_apart [] = true
all_apart (x ∷ xs) = cond (has x xs) false (all_apart xs)

pub not_in : (x : ℕ) (ys : List ℕ) → has x ys ≡ false → IsIn x ys → ⊥
not_in x [] e m = m
not_in x (y ∷ ys) e (inl h) =
    true≢false (ap (λ t. cond t true (has x ys)) (sym (eq-eqb x y h)) ∙ e)
not_in x (y ∷ ys) e (inr m) = by_test (eqb x y) e (λ f. not_in x ys f m)
  where
    by_test : (t : Bool) → cond t true (has x ys) ≡ false → (has x ys ≡ false → ⊥) → ⊥
    by_test true f k = true≢false f
    by_test false f k = k f

pub are_apart : (xs : List ℕ) → all_apart xs ≡ true → Apart xs
are_apart [] e = tt
are_apart (x ∷ xs) e = by_test (has x xs) refl e (are_apart xs)
  where
    by_test : (t : Bool)
        → has x xs ≡ t
        → cond t false (all_apart xs) ≡ true
        → (all_apart xs ≡ true → Apart xs)
        → Apart (x ∷ xs)
    by_test true h f k = absurd (true≢false (sym f))
    by_test false h f k = (not_in x xs h, k f)

-- a fact of each item, by its place
abbrev pub Each : {X : Type 0} → (ℕ → X → Type 0) → ℕ → List X → Type 0
Each P n [] = Unit {0}
Each P n (x ∷ xs) = P n x × Each P (n + 1) xs

each_from : {X : Type 0} (P : ℕ → X → Type 0) (n : ℕ) (xs : List X)
    → Each P n xs
    → (i : ℕ) (x : X)
    → slice_get xs i ≡ Some x
    → P (n + i) x
each_from P n [] h i x e = none_some e
each_from P n (y ∷ ys) h zero x e = subst (P (n + 0)) (some_same e) (subst (λ m. P m y) (here n) h.0)
  where
    here : (k : ℕ) → k ≡ k + 0
    here k = omega arith
each_from P n (y ∷ ys) h (suc i) x e = subst (λ m. P m x) (there n i) (each_from P (n + 1) ys h.1 i x e)
  where
    there : (k j : ℕ) → k + 1 + j ≡ k + suc j
    there k j = omega arith

pub each : {X : Type 0} (P : ℕ → X → Type 0) (xs : List X)
    → Each P 0 xs
    → (i : ℕ) (x : X)
    → slice_get xs i ≡ Some x
    → P i x
each P xs h i x e = subst (λ m. P m x) (from_zero i) (each_from P 0 xs h i x e)
  where
    from_zero : (k : ℕ) → 0 + k ≡ k
    from_zero k = omega arith

-- no MULTIEQUAL stands behind another op
abbrev pub InOrder : (ℕ → Option OpForm) → List ℕ → Type 0
InOrder forms [] = Unit {0}
InOrder forms (x ∷ xs) = (is_join (forms x) ≡ false → no_join forms xs) × InOrder forms xs

pub joins_first : (forms : ℕ → Option OpForm) (xs : List ℕ) → InOrder forms xs → JoinsFirst forms xs
joins_first forms [] h ys zs x e n = absurd (no_cons ys e)
  where
    no_cons : (ws : List ℕ) → [] ≡ ws ++ x ∷ zs → ⊥
    no_cons [] f = none_some (ap first f)
      where
        first : List ℕ → Option ℕ
        first [] = None
        first (w ∷ ws) = Some w
    no_cons (w ∷ ws) f = none_some (ap first f)
      where
        first : List ℕ → Option ℕ
        first [] = None
        first (v ∷ vs) = Some v
joins_first forms (y ∷ xs) h [] zs x e n =
    subst (no_join forms) (ap tail e) (h.0 (subst (λ v. is_join (forms v) ≡ false) (sym (some_same (ap first e))) n))
  where
    first : List ℕ → Option ℕ
    first [] = None
    first (w ∷ ws) = Some w

    tail : List ℕ → List ℕ
    tail [] = []
    tail (w ∷ ws) = ws
joins_first forms (y ∷ xs) h (z ∷ ys) zs x e n = joins_first forms xs h.1 ys zs x (ap tail e) n
  where
    tail : List ℕ → List ℕ
    tail [] = []
    tail (w ∷ ws) = ws
