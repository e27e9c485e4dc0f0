-- What holds of a word by turning points.
use Rattle.std.specs.Prelude.{ℕ, ◌<◌, ◌≤◌, Bool, true, false, not, nat_le, nat_lt, ◌&&◌, ◌||◌, if◌then◌else◌, List, [], ◌∷◌, ◌++◌, length, slice_index}
use Rattle.bits_core.specs.declared.ops.Binary.{Binary}
use Rattle.bits_core.specs.declared.ops.Binary.TheVariants.{BoolAnd, BoolOr, BoolXor}
use Rattle.word_sets.specs.declared.set.Connective.{Connective}
use Rattle.word_sets.specs.declared.set.Connective.TheVariants.{And, Or, Xor}

-- what holds of v, where b holds below all these points and it turns at each of them
abbrev pub turned : Bool → List ℕ → ℕ → Bool
turned b [] v = b
turned b (c ∷ cs) v = turned (if nat_le c v then not b else b) cs v

-- the operation that joins so
abbrev pub joining_of : Connective → Binary
joining_of And = BoolAnd
joining_of Or = BoolOr
joining_of Xor = BoolXor

abbrev pub joined : Connective → Bool → Bool → Bool
joined And a b = a && b
joined Or a b = a || b
joined Xor a b = if a then not b else b

-- whether v is one of the words from one on up to but without another, around the end; none where the two are one
abbrev pub in_arc : ℕ → ℕ → ℕ → Bool
in_arc from to v = if nat_le from to then nat_le from v && nat_lt v to else (nat_lt v to || nat_le from v)

-- the points with one more where what holds changes
abbrev pub noted : List ℕ → Bool → Bool → ℕ → List ℕ
noted cs true true c = cs
noted cs false false c = cs
noted cs true false c = cs ++ c ∷ []
noted cs false true c = cs ++ c ∷ []

-- the number at i is there, and not above the one at j of the other list, if any
pub record IsNext (xs : List ℕ) (i : ℕ) (ys : List ℕ) (j : ℕ) : Type 0 where
  pub there : i < length xs
  pub least : j < length ys → slice_index xs i ≤ slice_index ys j
