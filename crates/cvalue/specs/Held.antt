-- What the variables of a C function hold, as words in order of their numbers.
use Rattle.std.specs.Prelude.{◌≡◌, ℕ, List, slice_get, Option, Some, None}
use Rattle.bits_core.specs.declared.word.Word.{Word}
use Rattle.cmeaning.specs.Value.{Meaning}

-- the number of a word
abbrev pub number_in : Option Word → Option ℕ
number_in None = None
number_in (Some w) = Some w.value

-- of a variable: one that was never assigned, or doesn't exist, holds nothing
abbrev pub held : Option (Option Word) → Option ℕ
held None = None
held (Some w) = number_in w

-- what each variable holds
abbrev pub env_of : List (Option Word) → ℕ → Option ℕ
env_of words v = held (slice_get words v)

-- a word of so many bytes, if any
abbrev pub IsWide : ℕ → Option Word → Type 0
IsWide n None = Unit {0}
IsWide n (Some w) = w.width.bytes ≡ n

-- two words of one width, where there are both
abbrev pub AreAlike : Option Word → Option Word → Type 0
AreAlike a b = (x y : Word) → a ≡ Some x → b ≡ Some y → x.width.bytes ≡ y.width.bytes

-- each word that a variable holds is as wide as the variable
abbrev pub AreWide : (ℕ → ℕ) → List (Option Word) → Type 0
AreWide ws words = (v : ℕ) (w : Word) → slice_get words v ≡ Some (Some w) → w.width.bytes ≡ ws v

-- A word, if any, is the value of an expression that means so much, and is as wide as it.
pub record Tells (word : Option Word) (m : Meaning) (env : ℕ → Option ℕ) : Type 0 where
  pub value : number_in word ≡ m.value env
  pub width : IsWide m.width word
