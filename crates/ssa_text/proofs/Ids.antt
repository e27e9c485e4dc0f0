-- Numbers of ids.
use Rattle.std.proofs.Common.{◌≡◌, ℕ, List, [], ◌∷◌, refl, ap}
use Rattle.opgraph.specs.Graph.{numbers, value_ids}
use Rattle.opgraph.specs.Parts.{op_ids}
use Rattle.ssa_model.specs.Drops.{op_numbers}

pub value_numbers : (xs : List ℕ) → numbers (value_ids xs) ≡ xs
value_numbers [] = refl
value_numbers (x ∷ xs) = ap (λ ys. x ∷ ys) (value_numbers xs)

pub numbers_of_ops : (xs : List ℕ) → op_numbers (op_ids xs) ≡ xs
numbers_of_ops [] = refl
numbers_of_ops (x ∷ xs) = ap (λ ys. x ∷ ys) (numbers_of_ops xs)
