-- Joined and turned sets say what the operations of p-code give.
use Rattle.std.proofs.Common.{◌≡◌, Bool, true, false, not, refl}
use Rattle.bits_core.specs.Value.{flag, binary_value, unary_value}
use Rattle.bits_core.specs.declared.ops.Unary.TheVariants.{BoolNegate}
use Rattle.word_sets.specs.declared.set.Connective.{Connective}
use Rattle.word_sets.specs.declared.set.Connective.TheVariants.{And, Or, Xor}
use Rattle.word_sets.specs.Turns.{joined, joining_of}

-- a joined set has the words at which the operation is 1
pub flag-joined : (how : Connective) (a b : Bool)
    → flag (joined how a b) ≡ binary_value (joining_of how) 1 (flag a) 1 (flag b) 1
flag-joined And true true = refl
flag-joined And true false = refl
flag-joined And false true = refl
flag-joined And false false = refl
flag-joined Or true true = refl
flag-joined Or true false = refl
flag-joined Or false true = refl
flag-joined Or false false = refl
flag-joined Xor true true = refl
flag-joined Xor true false = refl
flag-joined Xor false true = refl
flag-joined Xor false false = refl

-- what isn't in the set are the words at which BOOL_NEGATE is 1
pub flag-not : (a : Bool) → flag (not a) ≡ unary_value BoolNegate 1 (flag a) 1
flag-not true = refl
flag-not false = refl
