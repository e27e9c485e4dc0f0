-- Numbers by their ranks, and the same numbers with their ranks beside them.
use Rattle.std.proofs.Common.{◌≡◌, ℕ, Bool, true, false, cond, List, [], ◌∷◌, refl, ap, ◌∙◌}
use Rattle.std.specs.Prelude.{nat_lt}
use Rattle.sorting.specs.declared.ranked.Ranked.{Ranked}
use Rattle.sorting.specs.Order.{by_key, placed_by}
use Rattle.sorting.specs.Ranks.{HaveRanks, numbers_of}

abbrev pub rank_of : Ranked → ℕ
rank_of r = r.rank

module _ (rank : ℕ → ℕ) where
  placed_numbers : (r : Ranked) (rs : List Ranked)
      → r.rank ≡ rank r.number
      → HaveRanks rank rs
      → numbers_of (placed_by rank_of r rs) ≡ placed_by rank r.number (numbers_of rs)
  placed_numbers r [] is all = refl
  placed_numbers r (s ∷ rs) is all =
      by (nat_lt s.rank r.rank) (placed_numbers r rs is all.1)
      ∙ ap (λ b. cond b (s.number ∷ placed_by rank r.number (numbers_of rs)) (r.number ∷ s.number ∷ numbers_of rs))
      (ap (λ n. nat_lt n r.rank) all.0 ∙ ap (nat_lt (rank s.number)) is)
    where
      by : (b : Bool)
          → numbers_of (placed_by rank_of r rs) ≡ placed_by rank r.number (numbers_of rs)
          → numbers_of (cond b (s ∷ placed_by rank_of r rs) (r ∷ s ∷ rs))
          ≡ cond b (s.number ∷ placed_by rank r.number (numbers_of rs)) (r.number ∷ s.number ∷ numbers_of rs)
      by true next = ap (λ ns. s.number ∷ ns) next
      by false next = refl

  placed_ranks : (r : Ranked) (rs : List Ranked)
      → r.rank ≡ rank r.number
      → HaveRanks rank rs
      → HaveRanks rank (placed_by rank_of r rs)
  placed_ranks r [] is all = (is, tt)
  placed_ranks r (s ∷ rs) is all = by (nat_lt s.rank r.rank) (placed_ranks r rs is all.1)
    where
      by : (b : Bool)
          → HaveRanks rank (placed_by rank_of r rs)
          → HaveRanks rank (cond b (s ∷ placed_by rank_of r rs) (r ∷ s ∷ rs))
      by true next = (all.0, next)
      by false next = (is, all)

  all_ranks : (rs : List Ranked) → HaveRanks rank rs → HaveRanks rank (by_key rank_of rs)
  all_ranks [] all = tt
  all_ranks (r ∷ rs) all = placed_ranks r (by_key rank_of rs) all.0 (all_ranks rs all.1)

  -- The numbers of what is sorted by ranks are the numbers sorted by their ranks.
  pub sorted_numbers : (rs : List Ranked)
      → HaveRanks rank rs
      → numbers_of (by_key rank_of rs) ≡ by_key rank (numbers_of rs)
  sorted_numbers [] all = refl
  sorted_numbers (r ∷ rs) all =
      placed_numbers r (by_key rank_of rs) all.0 (all_ranks rs all.1)
      ∙ ap (placed_by rank r.number) (sorted_numbers rs all.1)
