-- The sizes of an op's inputs and output, from the tests of the size rule.
use Rattle.std.proofs.Common.{◌≡◌, ◌+◌, ℕ, true}
use Rattle.std.specs.Prelude.{◌&&◌, ◌==◌}
use Rattle.std.proofs.lemmas.Bool.{and_parts, eqb-true, ltb-true}
use Rattle.bits_core.specs.declared.ops.Unary.{Unary}
use Rattle.bits_core.specs.declared.ops.Unary.TheVariants as U
use Rattle.bits_core.specs.declared.ops.Binary.{Binary}
use Rattle.bits_core.specs.declared.ops.Binary.TheVariants as B
use Rattle.bits_core.specs.Value.{IsUnarySized, IsBinarySized}
use Rattle.pcode_model.specs.Rules.{binary_sized, unary_sized}

pub unary_is : (op : Unary) (v w : ℕ) → unary_sized op v w ≡ true → IsUnarySized op v w
unary_is U.Copy v w h = eqb-true v w h
unary_is U.Negate v w h = eqb-true v w h
unary_is U.Complement v w h = eqb-true v w h
unary_is U.ZeroExtend v w h = ltb-true v w h
unary_is U.SignExtend v w h = ltb-true v w h
unary_is U.CountOnes v w h = tt
unary_is U.CountLeadingZeros v w h = tt
unary_is U.BoolNegate v w h = (eqb-true v 1 (and_parts _ _ h).0, eqb-true w 1 (and_parts _ _ h).1)

pub same_three : (n u v w : ℕ) → (u == n && (v == n && w == n)) ≡ true → (u ≡ n) × ((v ≡ n) × (w ≡ n))
same_three n u v w h =
    let p = and_parts _ _ h in let q = and_parts _ _ p.1 in (eqb-true u n p.0, (eqb-true v n q.0, eqb-true w n q.1))

pub two_of : (u v w : ℕ) → (u == w && (v == w && w == w)) ≡ true → (u ≡ w) × (v ≡ w)
two_of u v w h = let p = same_three w u v w h in (p.0, p.1.0)

compared : (u v w : ℕ) → (u == v && w == 1) ≡ true → (u ≡ v) × (w ≡ 1)
compared u v w h = let p = and_parts _ _ h in (eqb-true u v p.0, eqb-true w 1 p.1)

bytes_of : (u v w : ℕ) → (u == 1 && (v == 1 && w == 1)) ≡ true → (u ≡ 1) × (v ≡ 1) × (w ≡ 1)
bytes_of u v w h = let p = same_three 1 u v w h in (p.0, p.1.0, p.1.1)

pub binary_is : (op : Binary) (u v w : ℕ) → binary_sized op u v w ≡ true → IsBinarySized op u v w
binary_is B.Piece u v w h = eqb-true w (u + v) h
binary_is B.Subpiece u v w h = tt
binary_is B.Add u v w h = two_of u v w h
binary_is B.Subtract u v w h = two_of u v w h
binary_is B.Multiply u v w h = two_of u v w h
binary_is B.And u v w h = two_of u v w h
binary_is B.Or u v w h = two_of u v w h
binary_is B.Xor u v w h = two_of u v w h
binary_is B.Equal u v w h = compared u v w h
binary_is B.NotEqual u v w h = compared u v w h
binary_is B.Less u v w h = compared u v w h
binary_is B.LessEqual u v w h = compared u v w h
binary_is B.SignedLess u v w h = compared u v w h
binary_is B.SignedLessEqual u v w h = compared u v w h
binary_is B.Carry u v w h = compared u v w h
binary_is B.SignedCarry u v w h = compared u v w h
binary_is B.SignedBorrow u v w h = compared u v w h
binary_is B.Left u v w h = eqb-true u w h
binary_is B.Right u v w h = eqb-true u w h
binary_is B.SignedRight u v w h = eqb-true u w h
binary_is B.BoolAnd u v w h = bytes_of u v w h
binary_is B.BoolOr u v w h = bytes_of u v w h
binary_is B.BoolXor u v w h = bytes_of u v w h
