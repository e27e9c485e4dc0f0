-- Fields of nodes after a write.
use Rattle.std.proofs.Common.{◌≡◌, ℕ, zero, suc, ◌<◌, List, [], ◌∷◌, length, map, set, ◌⊎◌, inl, inr, Option, Some, None, refl, sym, ap, ◌∙◌, slice_get, arith}
use Rattle.std.proofs.Math.Path.{fun_ext}
use Rattle.std.proofs.lemmas.Bool.{cases_eq}
use Rattle.heap_nodes.proofs.Places.{some_same}
use Rattle.node_lists.specs.Chains.{put_at, put_key}
use Rattle.node_lists.specs.Nodes.{field, of_slot, ends_at, ends_of, ends_slot}
use Rattle.node_lists.specs.declared.node.Head.{Head}
use Rattle.node_lists.proofs.Chains.{put_here, put_away, key_here, key_away}

some_is : {a b : ℕ} → Some a ≡ Some b → a ≡ b
some_is e = cc

module _ {X : Type 0} where
  pub get_set : (xs : List X) (j : ℕ) (x y : X) → slice_get xs j ≡ Some x → slice_get (set xs j y) j ≡ Some y
  get_set [] j x y e = absurd (cc)
  get_set (z ∷ xs) zero x y e = refl
  get_set (z ∷ xs) (suc j) x y e = get_set xs j x y e

  pub get_other : (xs : List X) (j i : ℕ) (y : X) → (i ≡ j → ⊥) → slice_get (set xs j y) i ≡ slice_get xs i
  get_other [] j i y n = refl
  get_other (z ∷ xs) zero zero y n = absurd (n refl)
  get_other (z ∷ xs) zero (suc i) y n = refl
  get_other (z ∷ xs) (suc j) zero y n = refl
  get_other (z ∷ xs) (suc j) (suc i) y n = get_other xs j i y (λ e. n (ap suc e))

  -- an element after a write is the one that was written or an old one
  pub get_cases : (xs : List X) (j i : ℕ) (x y z : X)
      → slice_get xs j ≡ Some x
      → slice_get (set xs j y) i ≡ Some z
      → (z ≡ y) ⊎ (slice_get xs i ≡ Some z)
  get_cases xs j i x y z e f =
      elim (cases_eq i j) [
        | inl h ↦ inl (some_same (sym f ∙ ap (slice_get (set xs j y)) h ∙ get_set xs j x y e))
        | inr n ↦ inr (sym (get_other xs j i y n) ∙ f)
      ]

  pub field_set : (f : X → Option ℕ) (xs : List X) (j : ℕ) (x y : X)
      → slice_get xs j ≡ Some x
      → field f (set xs j y) ≡ put_at (Some j) (f y) (field f xs)
  field_set f xs j x y e =
      fun_ext (λ i.
      elim (cases_eq i j) [
        | inl h ↦
            ap (λ v. of_slot f (slice_get (set xs j y) v)) h
            ∙ ap (of_slot f) (get_set xs j x y e)
            ∙ sym (put_here (f y) (Some j) (field f xs) i (ap Some (sym h)))
        | inr n ↦
            ap (of_slot f) (get_other xs j i y n)
            ∙ sym (put_away (f y) (Some j) (field f xs) i (λ h. n (sym (some_is h))))
      ])

  pub field_same : (f : X → Option ℕ) (xs : List X) (j : ℕ) (x y : X)
      → slice_get xs j ≡ Some x
      → f y ≡ f x
      → field f (set xs j y) ≡ field f xs
  field_same f xs j x y e k =
      fun_ext (λ i.
      elim (cases_eq i j) [
        | inl h ↦
            ap (λ v. of_slot f (slice_get (set xs j y) v)) h
            ∙ ap (of_slot f) (get_set xs j x y e)
            ∙ k
            ∙ ap (of_slot f) (sym e)
            ∙ ap (λ v. of_slot f (slice_get xs v)) (sym h)
        | inr n ↦ ap (of_slot f) (get_other xs j i y n)
      ])

  pub map_same : {Y : Type 0} (f : X → Y) (xs : List X) (j : ℕ) (x y : X)
      → slice_get xs j ≡ Some x
      → f y ≡ f x
      → map f (set xs j y) ≡ map f xs
  map_same f [] j x y e k = absurd (cc)
  map_same f (z ∷ xs) zero x y e k = ap (λ v. v ∷ map f xs) (k ∙ ap f (sym (some_same e)))
  map_same f (z ∷ xs) (suc j) x y e k = ap (λ vs. f z ∷ vs) (map_same f xs j x y e k)

  pub map_set : {Y : Type 0} (f : X → Y) (xs : List X) (j : ℕ) (y : X) → map f (set xs j y) ≡ set (map f xs) j (f y)
  map_set f [] j y = refl
  map_set f (z ∷ xs) zero y = refl
  map_set f (z ∷ xs) (suc j) y = ap (λ vs. f z ∷ vs) (map_set f xs j y)

  pub low_of : (xs : List X) (j : ℕ) (x : X) → slice_get xs j ≡ Some x → j < length xs
  low_of [] j x e = absurd (cc)
  low_of (z ∷ xs) zero x e = omega arith
  low_of (z ∷ xs) (suc j) x e = let h : j < length xs = low_of xs j x e in omega arith

pub ends_set : (hs : List Head) (spare : Head) (j : ℕ) (h g : Head)
    → slice_get hs j ≡ Some h
    → ends_at (set hs j g) spare ≡ put_key (Some j) (ends_of g) (ends_at hs spare)
ends_set hs spare j h g e = fun_ext at
  where
    at : (k : Option ℕ) → ends_at (set hs j g) spare k ≡ put_key (Some j) (ends_of g) (ends_at hs spare) k
    at None = refl
    at (Some k) =
        elim (cases_eq k j) [
          | inl f ↦
              ap (λ v. ends_slot (slice_get (set hs j g) v)) f
              ∙ ap ends_slot (get_set hs j h g e)
              ∙ sym (key_here (ends_of g) (Some j) (ends_at hs spare) (Some k) (ap Some (sym f)))
          | inr n ↦
              ap ends_slot (get_other hs j k g n)
              ∙ sym (key_away (ends_of g) (Some j) (ends_at hs spare) (Some k) (λ f. n (sym (some_is f))))
        ]

pub ends_spare : (hs : List Head) (spare g : Head) → ends_at hs g ≡ put_key None (ends_of g) (ends_at hs spare)
ends_spare hs spare g = fun_ext at
  where
    at : (k : Option ℕ) → ends_at hs g k ≡ put_key None (ends_of g) (ends_at hs spare) k
    at None = refl
    at (Some k) = refl
