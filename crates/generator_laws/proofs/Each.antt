-- What holds of each instruction of a generated listing.
use Rattle.std.proofs.Common.{ℕ, zero, suc, List, [], ◌∷◌, ◌++◌, sym, subst}
use Rattle.std.specs.List.{AllByRecursion}
use Rattle.pcode_model.specs.declared.listing.Instruction.{Instruction}
use Rattle.generator.specs.declared.draws.Drawn.{Drawn}
use Rattle.generator.specs.Generated.{code_of, instructions, ops_of, placed, returning}
use Rattle.generator.proofs.Counted.{no_instructions, one_more}

module _ (P : Instruction → Type 0) where
  one_at_end : (xs : List Instruction) (x : Instruction)
      → AllByRecursion P xs
      → P x
      → AllByRecursion P (xs ++ x ∷ [])
  one_at_end [] x h p = (p, tt)
  one_at_end (y ∷ xs) x h p = (h.0, one_at_end xs x h.1 p)

  module _ (draws : ℕ → Drawn) (each : (i : ℕ) → P (placed i (ops_of (draws i)))) where
    first_have : (n : ℕ) → AllByRecursion P (instructions draws n)
    first_have zero = subst (AllByRecursion P) (sym (no_instructions draws)) tt
    first_have (suc n) =
        subst (AllByRecursion P) (sym (one_more draws n))
        (one_at_end (instructions draws n) (placed n (ops_of (draws n))) (first_have n) (each n))

    -- What holds of each drawn instruction and of the last one holds of all.
    pub all_have : P (placed 2000 returning) → AllByRecursion P (code_of draws)
    all_have last = one_at_end (instructions draws 2000) (placed 2000 returning) (first_have 2000) last
