-- Each operation's word is read as that operation, and no other word is.
use Rattle.std.proofs.Common.{◌≡◌, ◌∙◌, Bool, true, false, List, [], ◌∷◌, ◌++◌, ap, sym, refl}
use Rattle.std.specs.Prelude.{Option, Some, None, IfSome, codes, if◌then◌else◌}
use Rattle.std.specs.Str.{bytes_eq}
use Rattle.std.specs.Option.{option_map}
use Rattle.std.proofs.lemmas.Slice.Eq.{bytes_eq-Decides}
use Rattle.listing_lines.specs.Text.{Line}
use Rattle.bits_core.specs.declared.ops.Unary.TheVariants as unary
use Rattle.bits_core.specs.declared.ops.Binary.TheVariants as binary
use Rattle.bits_core.specs.declared.ops.Divide.TheVariants as divide
use Rattle.pcode_model.specs.declared.opcode.Opcode.{Opcode}
use Rattle.pcode_model.specs.declared.opcode.Opcode.TheVariants as opcode
use Rattle.pcode_model.specs.declared.opcode.FloatConversion.TheVariants as conversion
use Rattle.pcode_model.specs.declared.opcode.AnalysisOp.TheVariants as analysis
use Rattle.pcode_model.specs.declared.opcode.LeftOutOp.TheVariants as left_out
use Rattle.operations.specs.declared.operation.Operation.{Operation}
use Rattle.operations.specs.Operations.{IsCodeOf, code_of, float_of, named_by, opcode_of, operations, or_else}
use Rattle.operations.specs.Words.{word_of}

-- the word of each operation is read as that operation
pub read_back : (code : Opcode) → opcode_of (word_of code) ≡ Some code
read_back (opcode.Unary unary.Copy) = refl
read_back (opcode.Unary unary.Negate) = refl
read_back (opcode.Unary unary.Complement) = refl
read_back (opcode.Unary unary.ZeroExtend) = refl
read_back (opcode.Unary unary.SignExtend) = refl
read_back (opcode.Unary unary.CountOnes) = refl
read_back (opcode.Unary unary.CountLeadingZeros) = refl
read_back (opcode.Unary unary.BoolNegate) = refl
read_back (opcode.Binary binary.Piece) = refl
read_back (opcode.Binary binary.Subpiece) = refl
read_back (opcode.Binary binary.Add) = refl
read_back (opcode.Binary binary.Subtract) = refl
read_back (opcode.Binary binary.Multiply) = refl
read_back (opcode.Binary binary.And) = refl
read_back (opcode.Binary binary.Or) = refl
read_back (opcode.Binary binary.Xor) = refl
read_back (opcode.Binary binary.Equal) = refl
read_back (opcode.Binary binary.NotEqual) = refl
read_back (opcode.Binary binary.Less) = refl
read_back (opcode.Binary binary.LessEqual) = refl
read_back (opcode.Binary binary.SignedLess) = refl
read_back (opcode.Binary binary.SignedLessEqual) = refl
read_back (opcode.Binary binary.Carry) = refl
read_back (opcode.Binary binary.SignedCarry) = refl
read_back (opcode.Binary binary.SignedBorrow) = refl
read_back (opcode.Binary binary.Left) = refl
read_back (opcode.Binary binary.Right) = refl
read_back (opcode.Binary binary.SignedRight) = refl
read_back (opcode.Binary binary.BoolAnd) = refl
read_back (opcode.Binary binary.BoolOr) = refl
read_back (opcode.Binary binary.BoolXor) = refl
read_back (opcode.Divide divide.Quotient) = refl
read_back (opcode.Divide divide.SignedQuotient) = refl
read_back (opcode.Divide divide.Remainder) = refl
read_back (opcode.Divide divide.SignedRemainder) = refl
read_back opcode.Load = refl
read_back opcode.Store = refl
read_back opcode.Branch = refl
read_back opcode.CBranch = refl
read_back opcode.BranchInd = refl
read_back opcode.Call = refl
read_back opcode.CallInd = refl
read_back opcode.CallOther = refl
read_back opcode.Return = refl
read_back (opcode.FloatConversion conversion.FromInt) = refl
read_back (opcode.FloatConversion conversion.Resize) = refl
read_back (opcode.FloatConversion conversion.Truncate) = refl
read_back (opcode.FloatConversion conversion.Ceiling) = refl
read_back (opcode.FloatConversion conversion.Floor) = refl
read_back (opcode.FloatConversion conversion.Round) = refl
read_back (opcode.Analysis analysis.MultiEqual) = refl
read_back (opcode.Analysis analysis.Indirect) = refl
read_back (opcode.Analysis analysis.PtrAdd) = refl
read_back (opcode.Analysis analysis.PtrSub) = refl
read_back (opcode.Analysis analysis.Cast) = refl
read_back (opcode.LeftOut left_out.Insert) = refl
read_back (opcode.LeftOut left_out.Extract) = refl
read_back (opcode.LeftOut left_out.SegmentOp) = refl
read_back (opcode.LeftOut left_out.CpoolRef) = refl
read_back (opcode.LeftOut left_out.New) = refl
read_back (opcode.Float more) = refl

some_same : (a b : Opcode) → Some a ≡ Some b → a ≡ b
some_same a b e = cc

some_none : (a : Opcode) → ◌≡◌ {A = Option Opcode} (Some a) None → ⊥
some_none a e = cc

-- no two operations have one word
pub distinct : (a b : Opcode) → word_of a ≡ word_of b → a ≡ b
distinct a b e = some_same a b (sym (read_back a) ∙ ap opcode_of e ∙ read_back b)

named_is : (word : Line) (xs : List Operation) → IfSome (named_by word xs) (λ o. word_of (code_of o) ≡ word)
named_is word [] = tt
named_is word (x ∷ xs) = by_word (bytes_eq word (word_of (code_of x))) refl (named_by word xs) (named_is word xs)
  where
    by_word : (t : Bool) → bytes_eq word (word_of (code_of x)) ≡ t → (o : Option Operation) → IfSome o (λ a. word_of (code_of a) ≡ word)
        → IfSome (if t then Some x else o) (λ a. word_of (code_of a) ≡ word)
    by_word true e o h = sym ((bytes_eq-Decides word (word_of (code_of x))).0 e)
    by_word false e o h = h

float_is : (word : Line) → IfSome (float_of word) (λ more. codes "FLOAT_" ++ more ≡ word)
float_is [] = tt
float_is (a ∷ []) = tt
float_is (a ∷ b ∷ []) = tt
float_is (a ∷ b ∷ c ∷ []) = tt
float_is (a ∷ b ∷ c ∷ d ∷ []) = tt
float_is (a ∷ b ∷ c ∷ d ∷ e ∷ []) = tt
float_is (a ∷ b ∷ c ∷ d ∷ e ∷ f ∷ more) = by_front (bytes_eq (a ∷ b ∷ c ∷ d ∷ e ∷ f ∷ []) (codes "FLOAT_")) refl
  where
    by_front : (t : Bool) → bytes_eq (a ∷ b ∷ c ∷ d ∷ e ∷ f ∷ []) (codes "FLOAT_") ≡ t
        → IfSome (if t then Some more else None) (λ rest. codes "FLOAT_" ++ rest ≡ a ∷ b ∷ c ∷ d ∷ e ∷ f ∷ more)
    by_front true is = sym (ap (λ (front : Line). front ++ more) ((bytes_eq-Decides (a ∷ b ∷ c ∷ d ∷ e ∷ f ∷ []) (codes "FLOAT_")).0 is))
    by_front false is = tt

-- the word of an operation that is read is that word
pub opcode_is : (word : Line) → IfSome (opcode_of word) (λ c. word_of c ≡ word)
opcode_is word = by_both (float_of word) (named_by word operations) (float_is word) (named_is word operations)
  where
    by_both : (f : Option Line) (o : Option Operation) → IfSome f (λ more. codes "FLOAT_" ++ more ≡ word) → IfSome o (λ a. word_of (code_of a) ≡ word)
        → IfSome (or_else (option_map opcode.Float f) (option_map code_of o)) (λ c. word_of c ≡ word)
    by_both (Some more) o h g = h
    by_both None None h g = tt
    by_both None (Some a) h g = g

-- what is found is exactly the operation that has the word
pub exact : (word : Line) (found : Option Opcode) → found ≡ opcode_of word → IsCodeOf word found
exact word found is code = (λ e. there (sym e ∙ is), λ h. is ∙ ap opcode_of (sym h) ∙ read_back code)
  where
    there : Some code ≡ opcode_of word → word_of code ≡ word
    there e = at (opcode_of word) e (opcode_is word)
      where
        at : (o : Option Opcode) → Some code ≡ o → IfSome o (λ c. word_of c ≡ word) → word_of code ≡ word
        at None g h = absurd (some_none code g)
        at (Some c) g h = ap word_of (some_same code c g) ∙ h
