-- What is kept of two lists, one behind the other.
use Rattle.std.proofs.Common.{◌≡◌, ℕ, Bool, true, false, cond, List, [], ◌∷◌, ◌++◌, refl, ap}
use Rattle.ssa_model.specs.Outline.{only}

pub only_both : (keeps : ℕ → Bool) (xs ys : List ℕ) → only keeps (xs ++ ys) ≡ only keeps xs ++ only keeps ys
only_both keeps [] ys = refl
only_both keeps (x ∷ xs) ys = by (keeps x) (only_both keeps xs ys)
  where
    by : (b : Bool)
        → only keeps (xs ++ ys) ≡ only keeps xs ++ only keeps ys
        → cond b (x ∷ only keeps (xs ++ ys)) (only keeps (xs ++ ys))
        ≡ cond b (x ∷ only keeps xs) (only keeps xs) ++ only keeps ys
    by true next = ap (λ zs. x ∷ zs) next
    by false next = next
