-- A node is found at its place by its number.
use Rattle.std.proofs.Common.{◌≡◌, ℕ, zero, suc, ◌<◌, Bool, true, false, List, [], ◌∷◌, ◌++◌, length, map, set, refl, sym, ap, ◌∙◌, subst, cond, Option, Some, None, IsSome, true≢false, slice_get, arith}
use lib.Dec.{eqb_refl}
use mathlib.Core.Bool.{◌&&◌}
use lib.Dec.{T}
use Rattle.std.proofs.Common.{eqb}
use Rattle.std.specs.List.{AllByRecursion, IsDistinct}
use denote.RawPtr.{Ptr, block_ptr, null_ptr}
use native.Mathlib.Nat.{not-suc-le-zero, le_of_suc-le-suc}
use Rattle.heap_nodes.specs.declared.owner.Owner.{Owner}
use Rattle.heap_nodes.specs.Owners.{same_ptr, value_at, set_at, places, IsApart}
use Rattle.heap_nodes.specs.Rows.{values_of}

true_of : (b : Bool) → T b → b ≡ true
true_of true t = refl
true_of false t = absurd t

pub same_ptr_refl : (p : Ptr) → same_ptr p p ≡ true
same_ptr_refl (block_ptr b o) = λ i. true_of (eqb b b) (eqb_refl b) i && true_of (eqb o o) (eqb_refl o) i
same_ptr_refl null_ptr = refl

pub some_of : {X : Type 0} {o : Option X} {x : X} → o ≡ Some x → IsSome o
some_of e = subst IsSome (sym e) refl

pub some_same : {X : Type 0} {x y : X} → Some x ≡ Some y → x ≡ y
some_same e = cc

pub none_some : {X : Type 0} {x : X} {P : Type 0} → None ≡ Some x → P
none_some e = absurd (true≢false (sym (some_of e)))

all_at : (P : Ptr → Type 0) (ps : List Ptr) (i : ℕ) (p : Ptr) → AllByRecursion P ps → slice_get ps i ≡ Some p → P p
all_at P [] i p h e = none_some e
all_at P (q ∷ ps) zero p h e = subst P (some_same e) h.0
all_at P (q ∷ ps) (suc i) p h e = all_at P ps i p h.1 e

pub get_in : {X : Type 0} (xs : List X) (i : ℕ) → i < length xs → (x : X) × (slice_get xs i ≡ Some x)
get_in [] i low = absurd (not-suc-le-zero low)
get_in (x ∷ xs) zero low = (x, refl)
get_in (x ∷ xs) (suc i) low = get_in xs i (le_of_suc-le-suc low)

pub get_map : {X Y : Type 0} (f : X → Y) (xs : List X) (i : ℕ) (x : X)
    → slice_get xs i ≡ Some x
    → slice_get (map f xs) i ≡ Some (f x)
get_map f [] i x e = none_some e
get_map f (y ∷ xs) zero x e = ap (λ v. Some (f v)) (some_same e)
get_map f (y ∷ xs) (suc i) x e = get_map f xs i x e

module _ {T A : Type 0} where
  pub value_there : (p : Ptr) (i : ℕ) (os : List (Owner T A))
      → IsApart (places os)
      → slice_get (places os) i ≡ Some p
      → value_at p os ≡ slice_get (values_of os) i
  unfolding IsDistinct
  value_there p i [] d e = none_some e
  value_there p zero (o ∷ os) d e =
      ap (λ t. cond t (Some o.value) (value_at p os)) (ap (same_ptr o.at) (sym (some_same e)) ∙ same_ptr_refl o.at)
  value_there p (suc i) (o ∷ os) d e =
      ap (λ t. cond t (Some o.value) (value_at p os)) (all_at (λ q. same_ptr o.at q ≡ false) (places os) i p d.0 e)
      ∙ value_there p i os d.1 e

  pub set_there : (p : Ptr) (x : T) (i : ℕ) (os : List (Owner T A))
      → IsApart (places os)
      → slice_get (places os) i ≡ Some p
      → values_of (set_at p x os) ≡ set (values_of os) i x
  unfolding IsDistinct
  set_there p x i [] d e = none_some e
  set_there p x zero (o ∷ os) d e =
      ap (λ t. values_of (cond t (record o { value = x } ∷ os) (o ∷ set_at p x os)))
      (ap (same_ptr o.at) (sym (some_same e)) ∙ same_ptr_refl o.at)
  set_there p x (suc i) (o ∷ os) d e =
      ap (λ t. values_of (cond t (record o { value = x } ∷ os) (o ∷ set_at p x os)))
      (all_at (λ q. same_ptr o.at q ≡ false) (places os) i p d.0 e)
      ∙ ap (λ vs. o.value ∷ vs) (set_there p x i os d.1 e)

  pub places_set : (p : Ptr) (x : T) (os : List (Owner T A)) → places (set_at p x os) ≡ places os
  places_set p x [] = refl
  places_set p x (o ∷ os) = by_test (same_ptr o.at p) (places_set p x os)
    where
      by_test : (t : Bool)
          → places (set_at p x os) ≡ places os
          → places (cond t (record o { value = x } ∷ os) (o ∷ set_at p x os)) ≡ places (o ∷ os)
      by_test true rest = refl
      by_test false rest = ap (λ qs. o.at ∷ qs) rest

  pub found_there : (p : Ptr) (i : ℕ) (os : List (Owner T A))
      → IsApart (places os)
      → slice_get (places os) i ≡ Some p
      → IsSome (value_at p os)
  found_there p i os d e =
      let low = low_in (places os) i p e in let v = get_in (values_of os) i (subst (λ n. i < n) (lengths os) low) in
      some_of (value_there p i os d e ∙ v.1)
    where
      low_in : (ps : List Ptr) (j : ℕ) (q : Ptr) → slice_get ps j ≡ Some q → j < length ps
      low_in [] j q f = none_some f
      low_in (r ∷ ps) zero q f = omega arith
      low_in (r ∷ ps) (suc j) q f = let h : j < length ps = low_in ps j q f in omega arith

      lengths : (ws : List (Owner T A)) → length (places ws) ≡ length (values_of ws)
      lengths [] = refl
      lengths (w ∷ ws) = ap suc (lengths ws)

  pub length_values : (os : List (Owner T A)) → length (values_of os) ≡ length os
  length_values [] = refl
  length_values (o ∷ os) = ap suc (length_values os)

  pub length_places : (os : List (Owner T A)) → length (places os) ≡ length os
  length_places [] = refl
  length_places (o ∷ os) = ap suc (length_places os)

  pub values_more : (os : List (Owner T A)) (o : Owner T A) → values_of (os ++ o ∷ []) ≡ values_of os ++ o.value ∷ []
  values_more [] o = refl
  values_more (x ∷ os) o = ap (λ vs. x.value ∷ vs) (values_more os o)

  pub places_more : (os : List (Owner T A)) (o : Owner T A) → places (os ++ o ∷ []) ≡ places os ++ o.at ∷ []
  places_more [] o = refl
  places_more (x ∷ os) o = ap (λ vs. x.at ∷ vs) (places_more os o)

pub empty_apart : IsApart []
unfolding IsDistinct
empty_apart = tt

pub last_there : (ps : List Ptr) (p : Ptr) (n : ℕ) → n ≡ length ps → slice_get (ps ++ p ∷ []) n ≡ Some p
last_there ps p n e = ap (slice_get (ps ++ p ∷ [])) e ∙ here ps
  where
    here : (qs : List Ptr) → slice_get (qs ++ p ∷ []) (length qs) ≡ Some p
    here [] = refl
    here (q ∷ qs) = here qs
