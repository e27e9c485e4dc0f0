-- The value of an operation on words is a word.
use Rattle.std.proofs.Common.{◌≡◌, ℕ, suc, ◌+◌, ◌-◌, ◌*◌, ◌^◌, ◌<◌, ◌≤◌, sym, ap, ◌∙◌, arith, Bool, true, false, subst}
use Rattle.std.proofs.Math.Nat.{mod-lt, mod-le, div-le_self}
use Rattle.std.proofs.lemmas.Bool.Decides.{nat_tests}
use Rattle.std.specs.Prelude.{ℤ, pos, negsuc, Some}
use Rattle.bits_core.specs.declared.ops.Unary.{Unary}
use Rattle.bits_core.specs.declared.ops.Unary.TheVariants as U
use Rattle.bits_core.specs.declared.ops.Binary.{Binary}
use Rattle.bits_core.specs.declared.ops.Binary.TheVariants as B
use Rattle.bits_core.specs.declared.ops.Divide.{Divide}
use Rattle.bits_core.specs.declared.ops.Divide.TheVariants as D
use Rattle.bits_core.specs.Value.{IsUnarySized, unary_value, IsBinarySized, binary_value, divide_value, quotient_or_rest}
use Rattle.bits_core.specs.Value.{limit, flag, word, neg, complement, zext, sext, popcount, lzcount, concat, part, add, sub, mul, eq, ne, lt, le, slt, sle, carry, scarry, sborrow, left, right, sright, div, rem, sdiv, srem}
use Rattle.bits_core.proofs.Limits.{limit_pos, limit_up, limit-add, limit_least}
use Rattle.bits_core.proofs.Operations.{and_word, or_word, xor_word}

pub word_below : (w : ℕ) (z : ℤ) → word w z < limit w
word_below w (pos n) = mod-lt n (limit_pos w)
word_below w (negsuc n) = omega (arith, limit_pos w)

pub flag_below : (w : ℕ) (b : Bool) → w ≡ 1 → flag b < limit w
flag_below w true e = omega (arith, limit_least w (omega arith))
flag_below w false e = omega (arith, limit_least w (omega arith))

concat_below : (u v a b : ℕ) → a < limit u → b < limit v → a * limit v + b < limit u * limit v
concat_below u v a b p q = let m : suc a * limit v ≤ limit u * limit v = grind arith in omega arith

pub unary_word : (op : Unary) (v w a : ℕ) → 0 < w → IsUnarySized op v w → a < limit v → unary_value op v a w < limit w
unfolding neg complement zext sext popcount lzcount
unary_word U.Copy v w a some s p = subst (λ u. a < limit u) s p
unary_word U.Negate v w a some s p = mod-lt (limit w - a) (limit_pos w)
unary_word U.Complement v w a some s p = omega (arith, limit_pos w)
unary_word U.ZeroExtend v w a some s p = omega (arith, limit_up v w (omega arith))
unary_word U.SignExtend v w a some s p = word_below w _
unary_word U.CountOnes v w a some s p = mod-lt _ (limit_pos w)
unary_word U.CountLeadingZeros v w a some s p = mod-lt _ (limit_pos w)
unary_word U.BoolNegate v w a some s p = xor_word w a 1 (subst (λ u. a < limit u) (s.0 ∙ sym s.1) p) (omega (arith, limit_least w some))

pub binary_word : (op : Binary) (u v w a b : ℕ) → 0 < w → IsBinarySized op u v w → a < limit u → b < limit v → binary_value op u a v b w < limit w
unfolding concat part add sub mul eq ne lt le slt sle carry scarry sborrow left right sright
binary_word B.Piece u v w a b some s p q = subst (λ n. a * limit v + b < n) (sym (ap limit s ∙ limit-add u v)) (concat_below u v a b p q)
binary_word B.Subpiece u v w a b some s p q = mod-lt _ (limit_pos w)
binary_word B.Add u v w a b some s p q = mod-lt _ (limit_pos w)
binary_word B.Subtract u v w a b some s p q = mod-lt _ (limit_pos w)
binary_word B.Multiply u v w a b some s p q = mod-lt _ (limit_pos w)
binary_word B.And u v w a b some s p q = and_word w a b (subst (λ n. a < limit n) s.0 p)
binary_word B.Or u v w a b some s p q = or_word w a b (subst (λ n. a < limit n) s.0 p) (subst (λ n. b < limit n) s.1 q)
binary_word B.Xor u v w a b some s p q = xor_word w a b (subst (λ n. a < limit n) s.0 p) (subst (λ n. b < limit n) s.1 q)
binary_word B.Equal u v w a b some s p q = flag_below w _ s.1
binary_word B.NotEqual u v w a b some s p q = flag_below w _ s.1
binary_word B.Less u v w a b some s p q = flag_below w _ s.1
binary_word B.LessEqual u v w a b some s p q = flag_below w _ s.1
binary_word B.SignedLess u v w a b some s p q = flag_below w _ s.1
binary_word B.SignedLessEqual u v w a b some s p q = flag_below w _ s.1
binary_word B.Carry u v w a b some s p q = flag_below w _ s.1
binary_word B.SignedCarry u v w a b some s p q = flag_below w _ s.1
binary_word B.SignedBorrow u v w a b some s p q = flag_below w _ s.1
binary_word B.Left u v w a b some s p q = mod-lt _ (limit_pos w)
binary_word B.Right u v w a b some s p q = let e : limit u ≡ limit w = ap limit s in omega (arith, div-le_self a (2 ^ b))
binary_word B.SignedRight u v w a b some s p q = word_below w _
binary_word B.BoolAnd u v w a b some s p q = and_word w a b (subst (λ n. a < limit n) (s.0 ∙ sym s.2) p)
binary_word B.BoolOr u v w a b some s p q = or_word w a b (subst (λ n. a < limit n) (s.0 ∙ sym s.2) p) (subst (λ n. b < limit n) (s.1 ∙ sym s.2) q)
binary_word B.BoolXor u v w a b some s p q = xor_word w a b (subst (λ n. a < limit n) (s.0 ∙ sym s.2) p) (subst (λ n. b < limit n) (s.1 ∙ sym s.2) q)

-- a quotient or a rest is a word
pub divided_word : (op : Divide) (w a b : ℕ) → a < limit w → quotient_or_rest op w a b < limit w
unfolding div rem sdiv srem
divided_word D.Quotient w a b p = omega (arith, div-le_self a b)
divided_word D.SignedQuotient w a b p = word_below w _
divided_word D.Remainder w a b p = omega (arith, mod-le a b)
divided_word D.SignedRemainder w a b p = word_below w _

pub divide_word : (op : Divide) (w a b n : ℕ) → a < limit w → divide_value op w a b ≡ Some n → n < limit w
divide_word op w a b n p e = grind (arith, nat_tests, divided_word op w a b p)
