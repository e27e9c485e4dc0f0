-- Signed numbers that were sorted, each kept once.
use Rattle.std.proofs.Common.{◌≡◌, true, List, [], ◌∷◌, IsPermutation, Less, refl, subst, sym}
use Rattle.std.specs.Prelude.{ℤ, ◌<ℤ◌, ◌↔◌}
use Rattle.std.specs.List.{Contains, dedup}
use Rattle.std.specs.List.Sorted.{IsSorted, IsStrictlySortedBy}
use Rattle.std.specs.Ordering.{int_cmp, int_eq, is_eq}
use Rattle.std.proofs.lemmas.Cmp.{int_cmp_total, int_eq_equiv, int_ranked}
use Rattle.std.proofs.lemmas.Map.Lookups.{exact_signed}
use Rattle.std.proofs.lemmas.Map.Views.{tells_apart}
use Rattle.std.proofs.lemmas.List.Kept.{Contains-dedup, Contains-from_dedup, IsStrictlySortedBy-dedup}
use Rattle.std.proofs.lemmas.List.Sorted.{Contains-permutation, IsPermutation-sym}
use Rattle.pcode_model.specs.Flow.{IsIn}
use Rattle.frame_facts.specs.Listed.{InOrderBy}
use Rattle.frame_known.proofs.Collected.{contained, member}

rising : (xs : List ℤ) → IsStrictlySortedBy int_cmp xs → InOrderBy ◌<ℤ◌ xs
unfolding IsStrictlySortedBy
rising [] h = tt
rising (x ∷ []) h = tt
rising (x ∷ y ∷ xs) h = (int_ranked x y Less (sym h.0.0), rising (y ∷ xs) h.1)

module _
    (found sorted kept : List ℤ)
    (permuted : IsPermutation found sorted)
    (in_order : IsSorted int_cmp sorted)
    (is : kept ≡ dedup int_eq sorted)
  where
    kept_to : (o : ℤ) → IsIn o kept → IsIn o found
    kept_to o h =
        let there : Contains (dedup int_eq sorted) o = subst (λ xs. Contains xs o) is (contained o kept h) in
        let before : Contains sorted o = Contains-from_dedup int_eq sorted o there in
        member o found (Contains-permutation sorted found o (IsPermutation-sym found sorted permuted) before)

    kept_back : (o : ℤ) → IsIn o found → IsIn o kept
    kept_back o h =
        let there : Contains sorted o = Contains-permutation found sorted o permuted (contained o found h) in
        let same : (x y : ℤ) → int_eq x y ≡ true → x ≡ y = tells_apart exact_signed in
        let left : Contains (dedup int_eq sorted) o = Contains-dedup int_eq_equiv same sorted o there in
        member o kept (subst (λ xs. Contains xs o) (sym is) left)

    -- The numbers that are kept are those that were found.
    pub all_kept : (o : ℤ) → IsIn o kept ↔ IsIn o found
    all_kept o = (kept_to o, kept_back o)

    -- Each is below the next one.
    pub kept_rising : InOrderBy ◌<ℤ◌ kept
    kept_rising =
        let ties : (x y : ℤ) → int_eq x y ≡ is_eq (int_cmp x y) = λ x y. refl in
        let strictly = IsStrictlySortedBy-dedup int_cmp_total ties sorted in_order in
        rising kept (subst (λ xs. IsStrictlySortedBy int_cmp xs) (sym is) strictly)
