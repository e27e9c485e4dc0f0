-- The first instructions, by how many there are.
use Rattle.std.proofs.Common.{◌≡◌, ◌+◌, ℕ, suc, [], ◌∷◌, ◌++◌, refl, ap, add-one, ◌∙◌}
use Rattle.generator.specs.declared.draws.Drawn.{Drawn}
use Rattle.generator.specs.Generated.{instructions, ops_of, placed}

module _ (draws : ℕ → Drawn) where
  pub no_instructions : instructions draws 0 ≡ []
  unfolding instructions
  no_instructions = refl

  -- One more instruction is at the end.
  pub one_more : (n : ℕ) → instructions draws (suc n) ≡ instructions draws n ++ placed n (ops_of (draws n)) ∷ []
  unfolding instructions
  one_more n = refl

  pub next_instructions : (n : ℕ) → instructions draws (n + 1) ≡ instructions draws n ++ placed n (ops_of (draws n)) ∷ []
  next_instructions n = ap (instructions draws) (add-one n) ∙ one_more n
