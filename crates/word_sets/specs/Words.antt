-- The words of a set, in order.
use Rattle.std.specs.Prelude.{◌≡◌, ℕ, zero, suc, ◌<◌, ◌≤◌, ◌⊎◌, Bool, true, false, if◌then◌else◌, List, [], ◌∷◌, ◌++◌, length, slice_index}
use Rattle.word_sets.specs.declared.words.Step.{Step}
use Rattle.word_sets.specs.declared.words.Step.TheVariants.{Turn, Take, Stop}

-- the numbers below n at which p holds, in rising order
unfoldable pub words_of : (ℕ → Bool) → ℕ → List ℕ
words_of p zero = []
words_of p (suc n) = if p n then words_of p n ++ n ∷ [] else words_of p n

-- ---- a step of a walk that has passed i turning points and the words below one

-- the next turning point is passed, since no word below it is in the set or left
pub record IsTurn (turns : List ℕ) (i : ℕ) (is_in : Bool) (word top turn : ℕ) : Type 0 where
  pub there : i < length turns
  pub turn_is : turn ≡ slice_index turns i
  pub below : word ≤ top
  pub why : (is_in ≡ false) ⊎ (turn ≤ word)

-- the word is in the set
pub record IsTake (turns : List ℕ) (i : ℕ) (is_in : Bool) (word top : ℕ) : Type 0 where
  pub below : word ≤ top
  pub inside : is_in ≡ true
  pub ahead : i < length turns → word < slice_index turns i

abbrev pub IsStep : List ℕ → ℕ → Bool → ℕ → ℕ → Step → Type 0
IsStep turns i is_in word top (Turn turn) = IsTurn turns i is_in word top turn
IsStep turns i is_in word top Take = IsTake turns i is_in word top
IsStep turns i is_in word top Stop = (top < word) ⊎ ((is_in ≡ false) × (length turns ≤ i))
