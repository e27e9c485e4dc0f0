-- The blocks by their new numbers.
use Rattle.std.proofs.Common.{◌≡◌, ◌∙◌, ℕ, zero, suc, ◌<◌, ◌≤◌, Bool, true, false, cond, List, [], ◌∷◌, length, Some, refl, sym, ap, arith}
use Rattle.std.specs.Prelude.{map, nat_lt, slice_get}
use Rattle.std.specs.List.{insert}
use Rattle.std.specs.Option.{option_map}
use Rattle.std.proofs.lemmas.Bool.Decides.{nat_tests}
use Rattle.std.proofs.lemmas.List.{length-map}
use Rattle.std.proofs.lemmas.Option.{slice_get-map}
use Rattle.blockcode.specs.declared.code.Block.{Block}
use Rattle.blockcode.specs.declared.code.Code.{Code}
use Rattle.blockcode.specs.Numbers.{AreNumbered}
use Rattle.entry_block.specs.Entered.{entered, first_block, shifted, shifted_block}

-- ---- numbers

-- Below the entry's number a block keeps its own.
pub shifted_low : (n b : ℕ) → b < n → shifted n b ≡ b
shifted_low n b low = by (nat_lt b n) refl
  where
    by : (t : Bool) → nat_lt b n ≡ t → cond t b (suc b) ≡ b
    by true e = refl
    by false e = absurd (grind (arith, nat_tests, low))

-- From there on it has the next one.
pub shifted_high : (n b : ℕ) → n ≤ b → shifted n b ≡ suc b
shifted_high n b high = by (nat_lt b n) refl
  where
    by : (t : Bool) → nat_lt b n ≡ t → cond t b (suc b) ≡ suc b
    by true e = absurd (grind (arith, nat_tests, high))
    by false e = refl

-- A new number is less than the entry's and is the old one, or it is the number after an old one that isn't.
pub data IsShifted (n b : ℕ) : Type 0 where
  Low : b < n → shifted n b ≡ b → IsShifted n b
  High : n ≤ b → shifted n b ≡ suc b → IsShifted n b

pub is_shifted : (n b : ℕ) → IsShifted n b
is_shifted n b = by (nat_lt b n) refl
  where
    by : (t : Bool) → nat_lt b n ≡ t → IsShifted n b
    by true e = let low : b < n = grind (arith, nat_tests) in Low low (shifted_low n b low)
    by false e = let high : n ≤ b = grind (arith, nat_tests) in High high (shifted_high n b high)

-- No block has the entry's new number.
pub never_entry : (n b : ℕ) → shifted n b ≡ n → ⊥
never_entry n b e = by (is_shifted n b)
  where
    by : IsShifted n b → ⊥
    by (Low low is) = let same : b ≡ n = sym is ∙ e in omega (arith, low, same)
    by (High high is) = let same : suc b ≡ n = sym is ∙ e in omega (arith, high, same)

-- Different blocks have different numbers.
pub same_shifted : (n b c : ℕ) → shifted n b ≡ shifted n c → b ≡ c
same_shifted n b c e = by (is_shifted n b) (is_shifted n c)
  where
    by : IsShifted n b → IsShifted n c → b ≡ c
    by (Low low is) (Low low' is') = sym is ∙ e ∙ is'
    by (Low low is) (High high is') = let same : b ≡ suc c = sym is ∙ e ∙ is' in absurd (omega (arith, low, high, same))
    by (High high is) (Low low is') = let same : suc b ≡ c = sym is ∙ e ∙ is' in absurd (omega (arith, low, high, same))
    by (High high is) (High high' is') = let same : suc b ≡ suc c = sym is ∙ e ∙ is' in omega (arith, same)

-- Each number but the entry's is a new one.
pub old_number : (n b : ℕ) → (b ≡ n → ⊥) → (c : ℕ) × (shifted n c ≡ b)
old_number n zero ne = (0, shifted_low n 0 (omega (arith, ne)))
old_number n (suc b) ne = by (is_shifted n (suc b)) (is_shifted n b)
  where
    by : IsShifted n (suc b) → IsShifted n b → (c : ℕ) × (shifted n c ≡ suc b)
    by (Low low is) at = (suc b, is)
    by (High high is) (High high' is') = (b, is')
    by (High high is) (Low low is') = absurd (ne (omega (arith, high, low)))

-- ---- rows

module _ {A : Type 0} (y : A) where
  -- what is put in stands where it is put
  row_here : (xs : List A) (i : ℕ) → i ≤ length xs → slice_get (insert xs i y) i ≡ Some y
  row_here xs zero low = refl
  row_here [] (suc i) low = absurd (omega (arith, low))
  row_here (x ∷ xs) (suc i) low = row_here xs i (omega (arith, low))

  row_low : (xs : List A) (i b : ℕ) → i ≤ length xs → b < i → slice_get (insert xs i y) b ≡ slice_get xs b
  row_low xs zero b low less = absurd (omega (arith, less))
  row_low [] (suc i) b low less = absurd (omega (arith, low))
  row_low (x ∷ xs) (suc i) zero low less = refl
  row_low (x ∷ xs) (suc i) (suc b) low less = row_low xs i b (omega (arith, low)) (omega (arith, less))

  row_high : (xs : List A) (i b : ℕ) → i ≤ length xs → i ≤ b → slice_get (insert xs i y) (suc b) ≡ slice_get xs b
  row_high xs zero b low more = refl
  row_high [] (suc i) b low more = absurd (omega (arith, low))
  row_high (x ∷ xs) (suc i) zero low more = absurd (omega (arith, more))
  row_high (x ∷ xs) (suc i) (suc b) low more = row_high xs i b (omega (arith, low)) (omega (arith, more))

-- the blocks under their new numbers, without the new one
abbrev moved_blocks : Code → List Block
moved_blocks k = map (shifted_block k.entry) k.blocks

module _ (k : Code) (numbered : AreNumbered k) where
  inside : k.entry ≤ length (moved_blocks k)
  inside =
      let long : length (moved_blocks k) ≡ length k.blocks = length-map k.blocks (shifted_block k.entry) in
      let low = numbered.entry in
      omega (arith, long, low)

  -- The new block stands at the entry's number.
  pub entry_row : slice_get (entered k).blocks k.entry ≡ Some (first_block k.entry)
  entry_row = row_here (first_block k.entry) (moved_blocks k) k.entry inside

  -- Each other one stands at its new number.
  pub moved_row : (b : ℕ)
      → slice_get (entered k).blocks (shifted k.entry b)
      ≡ option_map (shifted_block k.entry) (slice_get k.blocks b)
  moved_row b = by (is_shifted k.entry b) ∙ slice_get-map (shifted_block k.entry) k.blocks b
    where
      by : IsShifted k.entry b → slice_get (entered k).blocks (shifted k.entry b) ≡ slice_get (moved_blocks k) b
      by (Low low is) =
          ap (slice_get (entered k).blocks) is ∙ row_low (first_block k.entry) (moved_blocks k) k.entry b inside low
      by (High high is) =
          ap (slice_get (entered k).blocks) is ∙ row_high (first_block k.entry) (moved_blocks k) k.entry b inside high
