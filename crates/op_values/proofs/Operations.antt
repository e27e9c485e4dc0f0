-- The value of the node of an operation is the operation's value.
use Rattle.std.proofs.Common.{◌≡◌, ℕ, ◌+◌, ◌<◌, ◌≤◌, Option, Some, sym, ap, ◌∙◌, subst, arith}
use Rattle.bits_core.specs.declared.ops.Unary.{Unary}
use Rattle.bits_core.specs.declared.ops.Unary.TheVariants as U
use Rattle.bits_core.specs.declared.ops.Binary.{Binary}
use Rattle.bits_core.specs.declared.ops.Binary.TheVariants as B
use Rattle.bits_core.specs.Value.{part, limit, popcount, lzcount, IsUnarySized, IsBinarySized, unary_value, binary_value}
use Rattle.bits_core.proofs.Limits.{limit_is}
use Rattle.cmeaning.specs.declared.tree.UnaryOp.TheVariants.{Neg, Not}
use Rattle.cmeaning.specs.declared.tree.ArithmeticOp.{ArithmeticOp}
use Rattle.cmeaning.specs.declared.tree.ArithmeticOp.TheVariants.{Add, Sub, Mul, And, Or, Xor}
use Rattle.cmeaning.specs.declared.tree.ShiftOp.{ShiftOp}
use Rattle.cmeaning.specs.declared.tree.ShiftOp.TheVariants.{Shl, Shr, Sar}
use Rattle.cmeaning.specs.declared.tree.CompareOp.{CompareOp}
use Rattle.cmeaning.specs.declared.tree.CompareOp.TheVariants.{Eq, Ne, Lt, Le}
use Rattle.cmeaning.specs.declared.tree.SignedCompareOp.{SignedCompareOp}
use Rattle.cmeaning.specs.declared.tree.SignedCompareOp.TheVariants.{SLt, SLe}
use Rattle.cmeaning.specs.declared.tree.ExtendOp.TheVariants.{Zext, Sext}
use Rattle.cmeaning.specs.declared.tree.OverflowOp.{OverflowOp}
use Rattle.cmeaning.specs.declared.tree.OverflowOp.TheVariants.{Carry, SCarry, SBorrow}
use Rattle.cmeaning.specs.declared.tree.CountOp.TheVariants.{Popcount, Lzcount}
use Rattle.cmeaning.specs.declared.tree.Expr.{Expr}
use Rattle.cmeaning.specs.declared.tree.Expr.TheVariants as E
use Rattle.cmeaning.specs.Value.{arithmetic_of, shift_of, compare_of, signed_compare_of, overflow_of, width_of}
use Rattle.cmeaning.proofs.Value.{width_of_unary, value_of_unary, width_of_arithmetic, value_of_arithmetic, width_of_shift, value_of_shift, width_of_compare, value_of_compare, width_of_signed_compare, value_of_signed_compare, width_of_extend, value_of_extend, width_of_concat, value_of_concat, width_of_overflow, value_of_overflow, width_of_count, value_of_count}
use Rattle.op_values.specs.Nodes.{nearest, width_by, constant, part_node, unary_node, binary_node}
use Rattle.op_values.proofs.Means.{Means, one, two, nearest_is, constant_means, widened_means, popcount_kept, lzcount_kept}
use Rattle.op_values.proofs.Parts.{part_means}

-- The second input of SUBPIECE is the number of bytes that its node drops.
abbrev pub IsDropped : Binary → (k b : ℕ) → Type 0
IsDropped B.Subpiece k b = k ≡ b
IsDropped op k b = Unit {0}

module _ (ws : ℕ → ℕ) (env : ℕ → Option ℕ) where
  pub unary_means : (op : Unary) (v w a : ℕ) (e : Expr)
      → IsUnarySized op v w
      → 0 < w
      → w ≤ 16
      → v ≤ 16
      → a < limit v
      → Means ws env e v a
      → Means ws env (unary_node op w e) w (unary_value op v a w)
  unary_means U.Copy v w a e s some small narrow below m = record { width = m.width ∙ s; value = m.value }
  unary_means U.Negate v w a e s some small narrow below m = record {
    width = width_of_unary ws Neg e ∙ m.width ∙ s;
    value = one ws env e (E.Unary Neg e) (λ u x. unary_value U.Negate u x u) v a (value_of_unary ws env Neg e) m
        ∙ ap (λ u. Some (unary_value U.Negate v a u)) s;
  }
  unary_means U.Complement v w a e s some small narrow below m = record {
    width = width_of_unary ws Not e ∙ m.width ∙ s;
    value = one ws env e (E.Unary Not e) (λ u x. unary_value U.Complement u x u) v a (value_of_unary ws env Not e) m
        ∙ ap (λ u. Some (unary_value U.Complement v a u)) s;
  }
  unary_means U.ZeroExtend v w a e s some small narrow below m = record {
    width = width_of_extend ws Zext (width_by w) e ∙ nearest_is w some small;
    value = one ws env e (E.Extend Zext (width_by w) e) (λ u x. unary_value U.ZeroExtend u x (nearest w)) v a
        (value_of_extend ws env Zext (width_by w) e) m;
  }
  unary_means U.SignExtend v w a e s some small narrow below m = record {
    width = width_of_extend ws Sext (width_by w) e ∙ nearest_is w some small;
    value = one ws env e (E.Extend Sext (width_by w) e) (λ u x. unary_value U.SignExtend u x (nearest w)) v a
        (value_of_extend ws env Sext (width_by w) e) m
        ∙ ap (λ u. Some (unary_value U.SignExtend v a u)) (nearest_is w some small);
  }
  unary_means U.CountOnes v w a e s some small narrow below m =
      let c : Means ws env (E.Count Popcount e) 1 (popcount 1 a) = record {
        width = width_of_count ws Popcount e;
        value = one ws env e (E.Count Popcount e) (λ u x. unary_value U.CountOnes u x 1) v a
            (value_of_count ws env Popcount e) m;
      } in
      let P : ℕ → Type 0 = λ n. Means ws env (E.Count Popcount e) 1 n in
      widened_means ws env w (popcount w a) (E.Count Popcount e) some small
      (subst P (popcount_kept v w a some narrow below) c)
  unary_means U.CountLeadingZeros v w a e s some small narrow below m =
      let c : Means ws env (E.Count Lzcount e) 1 (lzcount v 1 a) = record {
        width = width_of_count ws Lzcount e;
        value = one ws env e (E.Count Lzcount e) (λ u x. unary_value U.CountLeadingZeros u x 1) v a
            (value_of_count ws env Lzcount e) m;
      } in
      let P : ℕ → Type 0 = λ n. Means ws env (E.Count Lzcount e) 1 n in
      widened_means ws env w (lzcount v w a) (E.Count Lzcount e) some small (subst P (lzcount_kept v w a some narrow) c)
  unary_means U.BoolNegate v w a e s some small narrow below m =
      let c = constant_means ws env 1 1 (omega arith) (omega arith) (omega (arith, limit_is 1)) in
      record {
        width = width_of_arithmetic ws Xor e (constant 1 1) ∙ m.width ∙ s.0 ∙ sym s.1;
        value = two ws env (E.Arithmetic Xor e (constant 1 1)) e (constant 1 1)
            (λ u x v y. binary_value B.Xor u x v y u) v 1 a 1 (value_of_arithmetic ws env Xor e (constant 1 1)) m c;
      }

  arithmetic_means : (op : ArithmeticOp) (u v w a b : ℕ) (d e : Expr)
      → u ≡ w
      → Means ws env d u a
      → Means ws env e v b
      → Means ws env (E.Arithmetic op d e) w (binary_value (arithmetic_of op) u a v b w)
  arithmetic_means op u v w a b d e s m n = record {
    width = width_of_arithmetic ws op d e ∙ m.width ∙ s;
    value = two ws env (E.Arithmetic op d e) d e (λ u x v y. binary_value (arithmetic_of op) u x v y u) u v a b
        (value_of_arithmetic ws env op d e) m n ∙ ap (λ k. Some (binary_value (arithmetic_of op) u a v b k)) s;
  }

  compare_means : (op : CompareOp) (u v w a b : ℕ) (d e : Expr)
      → w ≡ 1
      → Means ws env d u a
      → Means ws env e v b
      → Means ws env (E.Compare op d e) w (binary_value (compare_of op) u a v b w)
  compare_means op u v w a b d e s m n = record {
    width = width_of_compare ws op d e ∙ sym s;
    value = two ws env (E.Compare op d e) d e (λ u x v y. binary_value (compare_of op) u x v y 1) u v a b
        (value_of_compare ws env op d e) m n ∙ ap (λ k. Some (binary_value (compare_of op) u a v b k)) (sym s);
  }

  signed_compare_means : (op : SignedCompareOp) (u v w a b : ℕ) (d e : Expr)
      → w ≡ 1
      → Means ws env d u a
      → Means ws env e v b
      → Means ws env (E.SignedCompare op d e) w (binary_value (signed_compare_of op) u a v b w)
  signed_compare_means op u v w a b d e s m n = record {
    width = width_of_signed_compare ws op d e ∙ sym s;
    value = two ws env (E.SignedCompare op d e) d e (λ u x v y. binary_value (signed_compare_of op) u x v y 1) u v a b
        (value_of_signed_compare ws env op d e) m n
        ∙ ap (λ k. Some (binary_value (signed_compare_of op) u a v b k)) (sym s);
  }

  overflow_means : (op : OverflowOp) (u v w a b : ℕ) (d e : Expr)
      → w ≡ 1
      → Means ws env d u a
      → Means ws env e v b
      → Means ws env (E.Overflow op d e) w (binary_value (overflow_of op) u a v b w)
  overflow_means op u v w a b d e s m n = record {
    width = width_of_overflow ws op d e ∙ sym s;
    value = two ws env (E.Overflow op d e) d e (λ u x v y. binary_value (overflow_of op) u x v y 1) u v a b
        (value_of_overflow ws env op d e) m n ∙ ap (λ k. Some (binary_value (overflow_of op) u a v b k)) (sym s);
  }

  shift_means : (op : ShiftOp) (u v w a b : ℕ) (d e : Expr)
      → u ≡ w
      → Means ws env d u a
      → Means ws env e v b
      → Means ws env (E.Shift op d e) w (binary_value (shift_of op) u a v b w)
  shift_means op u v w a b d e s m n = record {
    width = width_of_shift ws op d e ∙ m.width ∙ s;
    value = two ws env (E.Shift op d e) d e (λ u x v y. binary_value (shift_of op) u x v y u) u v a b
        (value_of_shift ws env op d e) m n ∙ ap (λ k. Some (binary_value (shift_of op) u a v b k)) s;
  }

  -- the words of two inputs; SUBPIECE's second one is the number that its node has
  pub binary_means : (op : Binary) (u v w a b k : ℕ) (d e : Expr)
      → IsBinarySized op u v w
      → IsDropped op k b
      → (0 < u) × (u ≤ 16)
      → (0 < w) × (w ≤ 16)
      → a < limit u
      → Means ws env d u a
      → Means ws env e v b
      → Means ws env (binary_node op u k w d e) w (binary_value op u a v b w)
  binary_means B.Piece u v w a b k d e s drops input narrow below m n = record {
    width = width_of_concat ws d e ∙ ap (λ k. k + width_of ws e) m.width ∙ ap (λ k. u + k) n.width ∙ sym s;
    value = two ws env (E.Concat d e) d e (λ u x v y. binary_value B.Piece u x v y (u + v)) u v a b
        (value_of_concat ws env d e) m n;
  }
  binary_means B.Subpiece u v w a b k d e s drops input narrow below m n =
      let P : ℕ → Type 0 = λ j. Means ws env (part_node (nearest u) k w d) w (part a j w) in
      let Q : ℕ → Type 0 = λ v. Means ws env (part_node v k w d) w (part a k w) in
      subst P drops (subst Q (sym (nearest_is u input.0 input.1))
      (part_means ws env u k w a d narrow.0 narrow.1 below m))
  binary_means B.Add u v w a b k d e s drops input narrow below m n = arithmetic_means Add u v w a b d e s.0 m n
  binary_means B.Subtract u v w a b k d e s drops input narrow below m n = arithmetic_means Sub u v w a b d e s.0 m n
  binary_means B.Multiply u v w a b k d e s drops input narrow below m n = arithmetic_means Mul u v w a b d e s.0 m n
  binary_means B.And u v w a b k d e s drops input narrow below m n = arithmetic_means And u v w a b d e s.0 m n
  binary_means B.Or u v w a b k d e s drops input narrow below m n = arithmetic_means Or u v w a b d e s.0 m n
  binary_means B.Xor u v w a b k d e s drops input narrow below m n = arithmetic_means Xor u v w a b d e s.0 m n
  binary_means B.Equal u v w a b k d e s drops input narrow below m n = compare_means Eq u v w a b d e s.1 m n
  binary_means B.NotEqual u v w a b k d e s drops input narrow below m n = compare_means Ne u v w a b d e s.1 m n
  binary_means B.Less u v w a b k d e s drops input narrow below m n = compare_means Lt u v w a b d e s.1 m n
  binary_means B.LessEqual u v w a b k d e s drops input narrow below m n = compare_means Le u v w a b d e s.1 m n
  binary_means B.SignedLess u v w a b k d e s drops input narrow below m n =
      signed_compare_means SLt u v w a b d e s.1 m n
  binary_means B.SignedLessEqual u v w a b k d e s drops input narrow below m n =
      signed_compare_means SLe u v w a b d e s.1 m n
  binary_means B.Carry u v w a b k d e s drops input narrow below m n = overflow_means Carry u v w a b d e s.1 m n
  binary_means B.SignedCarry u v w a b k d e s drops input narrow below m n =
      overflow_means SCarry u v w a b d e s.1 m n
  binary_means B.SignedBorrow u v w a b k d e s drops input narrow below m n =
      overflow_means SBorrow u v w a b d e s.1 m n
  binary_means B.Left u v w a b k d e s drops input narrow below m n = shift_means Shl u v w a b d e s m n
  binary_means B.Right u v w a b k d e s drops input narrow below m n = shift_means Shr u v w a b d e s m n
  binary_means B.SignedRight u v w a b k d e s drops input narrow below m n = shift_means Sar u v w a b d e s m n
  binary_means B.BoolAnd u v w a b k d e s drops input narrow below m n =
      arithmetic_means And u v w a b d e (s.0 ∙ sym s.2) m n
  binary_means B.BoolOr u v w a b k d e s drops input narrow below m n =
      arithmetic_means Or u v w a b d e (s.0 ∙ sym s.2) m n
  binary_means B.BoolXor u v w a b k d e s drops input narrow below m n =
      arithmetic_means Xor u v w a b d e (s.0 ∙ sym s.2) m n
