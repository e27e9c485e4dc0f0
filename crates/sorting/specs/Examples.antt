-- Small lists in order.
use Rattle.std.specs.Prelude.{◌≡◌, ℕ, zero, suc, [], ◌∷◌}
use Rattle.sorting.specs.Order.{by_key}

abbrev half : ℕ → ℕ
half zero = 0
half (suc zero) = 0
half (suc (suc n)) = suc (half n)

pub record SmallOrders : Type 0 where
  pub none : by_key half [] ≡ []
  pub rising : by_key (λ x. x) (3 ∷ 1 ∷ 2 ∷ []) ≡ 1 ∷ 2 ∷ 3 ∷ []
  -- 5 and 4 have one key, as 3 and 2 have
  pub stable : by_key half (5 ∷ 3 ∷ 4 ∷ 2 ∷ 0 ∷ []) ≡ 0 ∷ 3 ∷ 2 ∷ 5 ∷ 4 ∷ []
