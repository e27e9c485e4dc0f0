-- What stands at the addresses of a generated listing.
use Rattle.std.proofs.Common.{◌⊎◌, inl, inr, ◌≡◌, ◌∙◌, ◌<◌, ◌≤◌, ℕ, zero, suc, Bool, true, false, List, [], ◌∷◌, ◌++◌, ap, sym, arith, append_assoc}
use Rattle.std.specs.Prelude.{◌==◌, Some, if◌then◌else◌}
use Rattle.std.proofs.lemmas.Bool.Decides.{nat_tests}
use Rattle.pcode_model.specs.declared.listing.Instruction.{Instruction}
use Rattle.pcode_model.specs.Places.{instruction_at, instruction_in}
use Rattle.generator.specs.declared.draws.Drawn.{Drawn}
use Rattle.generator.specs.Generated.{address, instructions, listing_of, ops_of, placed, returning}
use Rattle.generator.proofs.Counted.{no_instructions, one_more}

same_address : (i : ℕ) → (address i == address i) ≡ true
same_address i = grind (arith, nat_tests)

other_address : (i j : ℕ) → i < j → (address i == address j) ≡ false
other_address i j h = grind (arith, nat_tests)

module _ (draws : ℕ → Drawn) where
  abbrev drawn : ℕ → Instruction
  drawn i = placed i (ops_of (draws i))

  split : (n : ℕ) (rest : List Instruction)
      → instructions draws (suc n) ++ rest ≡ instructions draws n ++ (drawn n ∷ rest)
  split n rest = ap (λ (code : List Instruction). code ++ rest) (one_more draws n)
      ∙ append_assoc (instructions draws n) (drawn n ∷ []) rest

  -- past the first n instructions
  passed : (n : ℕ) (rest : List Instruction) (i : ℕ)
      → n ≤ i
      → instruction_in (instructions draws n ++ rest) (address i) ≡ instruction_in rest (address i)
  passed zero rest i h =
      ap (λ (code : List Instruction). instruction_in (code ++ rest) (address i)) (no_instructions draws)
  passed (suc n) rest i h =
      ap (λ (code : List Instruction). instruction_in code (address i)) (split n rest)
      ∙ passed n (drawn n ∷ rest) i (omega arith)
      ∙ ap (λ (t : Bool). if t then Some (drawn n) else instruction_in rest (address i))
      (other_address n i (omega arith))

  near : (i n : ℕ) → i < suc n → (i < n) ⊎ (i ≡ n)
  near i n h = grind arith

  -- among the first n instructions, or the next one
  by_place : (n : ℕ) (rest : List Instruction) (i : ℕ)
      → (i < n) ⊎ (i ≡ n)
      → (i < n → instruction_in (instructions draws n ++ (drawn n ∷ rest)) (address i) ≡ Some (drawn i))
      → instruction_in (instructions draws n ++ (drawn n ∷ rest)) (address i) ≡ Some (drawn i)
  by_place n rest i (inl less) h = h less
  by_place n rest i (inr same) h =
      passed n (drawn n ∷ rest) i (omega (arith, same))
      ∙ ap (λ (m : ℕ). instruction_in (drawn m ∷ rest) (address i)) (sym same)
      ∙ ap (λ (t : Bool). if t then Some (drawn i) else instruction_in rest (address i)) (same_address i)

  found : (n : ℕ) (rest : List Instruction) (i : ℕ)
      → i < n
      → instruction_in (instructions draws n ++ rest) (address i) ≡ Some (drawn i)
  found zero rest i h = absurd (omega arith)
  found (suc n) rest i h =
      ap (λ (code : List Instruction). instruction_in code (address i)) (split n rest)
      ∙ by_place n rest i (near i n h) (λ less. found n (drawn n ∷ rest) i less)

  -- The drawn instruction of that number stands at its address, and the last one at the last address.
  pub drawn_stands : (i : ℕ) → i < 2000 → instruction_at (listing_of draws) (address i) ≡ Some (placed i (ops_of (draws i)))
  drawn_stands i h = found 2000 (placed 2000 returning ∷ []) i h

  pub last_stands : instruction_at (listing_of draws) (address 2000) ≡ Some (placed 2000 returning)
  last_stands = passed 2000 (placed 2000 returning ∷ []) 2000 (omega arith)
