-- Names of two lengths.
use Rattle.std.proofs.Common.{◌≡◌, ◌≢◌, ℕ, suc, ◌==◌, ◌&&◌, ◌∙◌, Bool, true, false, List, [], ◌∷◌, length, refl, ap}
use Rattle.cmeaning.specs.Do.{same_name}

and_no : (b : Bool) → false ≡ b && false
and_no true = refl
and_no false = refl

-- aren't the same
pub names_of_lengths : (a b : List ℕ) → length a ≢ length b → false ≡ same_name a b
names_of_lengths [] [] differ = absurd (differ refl)
names_of_lengths [] (d ∷ ds) differ = refl
names_of_lengths (c ∷ cs) [] differ = refl
names_of_lengths (c ∷ cs) (d ∷ ds) differ =
    and_no (c == d) ∙ ap (λ b. c == d && b) (names_of_lengths cs ds (λ same. differ (ap suc same)))
