-- Where a number stands among numbers that rise.
use Rattle.std.proofs.Common.{◌≡◌, ℕ, zero, suc, ◌<◌, ◌≤◌, List, [], ◌∷◌, length, get_or, refl, sym, ap, inl, inr, ⊎_elim, arith}
use Rattle.std.specs.List.Sorted.{IsStrictlyIncreasing, IsBinarySearchResult}
use Rattle.std.specs.Ordering.{nat_cmp}
use Rattle.std.specs.Prelude.{Ok, Err}
use Rattle.std.proofs.lemmas.Bool.{cases_order}
use Rattle.std.proofs.lemmas.List.Sorted.{searched}
use Rattle.std.proofs.lemmas.Map.Keys.{below_from_sorted, sorted_from_strictly_increasing}
use Rattle.pcode_model.specs.Flow.{IsIn}
use Rattle.frame_known.specs.Slots.{IsLower}

-- ---- members by number

pub get_in : (xs : List ℕ) (k : ℕ) → k < length xs → IsIn (get_or xs k 0) xs
get_in [] k lt = absurd (omega arith)
get_in (x ∷ xs) zero lt = inl refl
get_in (x ∷ xs) (suc k) lt = inr (get_in xs k (omega arith))

pub in_get : (n : ℕ) (xs : List ℕ) → IsIn n xs → (k : ℕ) × ((k < length xs) × (get_or xs k 0 ≡ n))
in_get n [] h = absurd h
in_get n (x ∷ xs) (inl e) = (zero, (omega arith, sym e))
in_get n (x ∷ xs) (inr h) = let r = in_get n xs h in (suc r.0, (omega arith, r.1.1))

module _ (ks : List ℕ) (up : IsStrictlyIncreasing ks) where
  pub rises : (i j : ℕ) → i < j → j < length ks → get_or ks i 0 < get_or ks j 0
  rises i j lt inside = below_from_sorted ks i j 0 (sorted_from_strictly_increasing ks up) lt inside

  rises_on : (i j : ℕ) → i ≤ j → j < length ks → get_or ks i 0 ≤ get_or ks j 0
  rises_on i j le inside =
      ⊎_elim
      (λ (e : i ≡ j). let f : get_or ks i 0 ≡ get_or ks j 0 = ap (λ k. get_or ks k 0) e in omega (arith, f))
      (λ o. ⊎_elim
      (λ (lt : i < j). let r = rises i j lt inside in omega (arith, r))
      (λ (gt : j < i). absurd (omega (arith, gt, le)))
      o)
      (cases_order i j)

  -- equal numbers stand at one place
  pub stands_once : (i j : ℕ) → i < length ks → j < length ks → get_or ks i 0 ≡ get_or ks j 0 → i ≡ j
  stands_once i j in_i in_j e =
      ⊎_elim
      (λ same. same)
      (λ o. absurd (⊎_elim
      (λ lt. let r = rises i j lt in_j in omega (arith, r, e))
      (λ gt. let r = rises j i gt in_i in omega (arith, r, e))
      o))
      (cases_order i j)

  module _ (n : ℕ) where
    pub found : (i : ℕ)
        → IsBinarySearchResult (λ y. nat_cmp y n) ks (Ok i)
        → (i < length ks) × (get_or ks i 0 ≡ n)
    found i h = searched ks n (Ok i) h rises_on

    missed : (i : ℕ)
        → IsBinarySearchResult (λ y. nat_cmp y n) ks (Err i)
        → (i ≤ length ks)
        × ((k : ℕ) → k < i → get_or ks k 0 < n)
        × ((k : ℕ) → i ≤ k → k < length ks → n < get_or ks k 0)
    missed i h = searched ks n (Err i) h rises_on

    pub lower_found : (i : ℕ) → IsBinarySearchResult (λ y. nat_cmp y n) ks (Ok i) → IsLower ks n i
    lower_found i h =
        let f = found i h in
        record {
          inside = omega (arith, f.0);
          below = λ k lt. let r = rises k i lt f.0 in omega (arith, r, f.1);
          above = λ k le inside. let r = rises_on i k le inside in omega (arith, r, f.1);
        }

    pub lower_missed : (i : ℕ) → IsBinarySearchResult (λ y. nat_cmp y n) ks (Err i) → IsLower ks n i
    lower_missed i h =
        let f = missed i h in
        record {
          inside = f.0;
          below = f.1;
          above = λ k le inside. let r = f.2 k le inside in omega (arith, r);
        }

    pub none_missed : (i : ℕ) → IsBinarySearchResult (λ y. nat_cmp y n) ks (Err i) → IsIn n ks → ⊥
    none_missed i h is =
        let f = missed i h in
        let x = in_get n ks is in
        ⊎_elim
        (λ (e : x.0 ≡ i).
        let r = f.2 x.0 (omega (arith, e)) x.1.0 in
        omega (arith, r, x.1.1))
        (λ o. ⊎_elim
        (λ (lt : x.0 < i). let r = f.1 x.0 lt in omega (arith, r, x.1.1))
        (λ (gt : i < x.0). let r = f.2 x.0 (omega (arith, gt)) x.1.0 in omega (arith, r, x.1.1))
        o)
        (cases_order x.0 i)
