-- The expressions that stand for operations, parts of words, divisions and addresses obey the rules.
use Rattle.std.proofs.Common.{◌≡◌, ℕ, ◌+◌, ◌-◌, ◌%◌, ◌<◌, ◌≤◌, Bool, true, false, refl, sym, ap, ◌∙◌, arith}
use Rattle.std.specs.Prelude.{◌==◌, ◌&&◌, cond, nat_le, nat_lt, not}
use Rattle.std.proofs.Math.Nat.{mod-eq_of_lt}
use Rattle.std.proofs.lemmas.Bool.Decides.{nat_tests}
use Rattle.bits_core.specs.declared.ops.Unary.{Unary}
use Rattle.bits_core.specs.declared.ops.Unary.TheVariants as U
use Rattle.bits_core.specs.declared.ops.Binary.{Binary}
use Rattle.bits_core.specs.declared.ops.Binary.TheVariants as B
use Rattle.bits_core.specs.declared.ops.Divide.{Divide}
use Rattle.bits_core.specs.declared.ops.Divide.TheVariants as D
use Rattle.bits_core.specs.Value.{IsBinarySized, IsUnarySized, limit}
use Rattle.cmeaning.specs.declared.tree.UnaryOp.TheVariants.{Neg, Not}
use Rattle.cmeaning.specs.declared.tree.ArithmeticOp.TheVariants.{Add, Sub, Mul, And, Or, Xor}
use Rattle.cmeaning.specs.declared.tree.DivisionOp.TheVariants.{Div, Rem}
use Rattle.cmeaning.specs.declared.tree.SignedDivisionOp.TheVariants.{SDiv, SRem}
use Rattle.cmeaning.specs.declared.tree.ShiftOp.TheVariants.{Shl, Shr, Sar}
use Rattle.cmeaning.specs.declared.tree.CompareOp.TheVariants.{Eq, Ne, Lt, Le}
use Rattle.cmeaning.specs.declared.tree.SignedCompareOp.TheVariants.{SLt, SLe}
use Rattle.cmeaning.specs.declared.tree.ExtendOp.TheVariants.{Zext, Sext}
use Rattle.cmeaning.specs.declared.tree.OverflowOp.TheVariants.{Carry, SCarry, SBorrow}
use Rattle.cmeaning.specs.declared.tree.CountOp.TheVariants.{Popcount, Lzcount}
use Rattle.cmeaning.specs.declared.tree.Expr.{Expr}
use Rattle.cmeaning.specs.declared.tree.Expr.TheVariants as E
use Rattle.op_values.specs.Nodes.{address_node, binary_node, constant, divides_by, division_node, nearest, part_node, unary_node, width_by, within_node}
use Rattle.op_values.proofs.Means.{nearest_is}
use Rattle.plain_valid.proofs.Shapes.{Fits, arithmetic_fits, as_wide, compare_fits, concat_fits, constant_fits, count_fits, deeper, division_fits, extend_fits, overflow_fits, part_fits, shift_fits, signed_compare_fits, signed_division_fits, unary_fits_by}

module _ (ws : ℕ → ℕ) (n : ℕ) where
  -- ---- one operand

  widened_by : (t : Bool) (w : ℕ) (e : Expr)
      → (w == 1) ≡ t
      → 0 < w
      → w ≤ 16
      → Fits ws n e 1 17
      → Fits ws n (cond t e (E.Extend Zext (width_by w) e)) w 18
  widened_by true w e is some small f =
      let o : 1 ≡ w = grind (arith, nat_tests) in
      as_wide ws n e 1 w 18 o (deeper ws n e 1 17 18 (omega arith) f)
  widened_by false w e is some small f =
      let o : 1 < w = grind (arith, nat_tests) in
      extend_fits ws n Zext 1 w 17 e o small (omega arith) f

  pub unary_fits : (op : Unary) (v w : ℕ) (e : Expr)
      → IsUnarySized op v w
      → 0 < w
      → w ≤ 16
      → Fits ws n e v 16
      → Fits ws n (unary_node op w e) w 18
  unary_fits U.Copy v w e s some small f = as_wide ws n e v w 18 s (deeper ws n e v 16 18 (omega arith) f)
  unary_fits U.Negate v w e s some small f =
      deeper ws n (E.Unary Neg e) w 17 18 (omega arith) (unary_fits_by ws n Neg v w e s f)
  unary_fits U.Complement v w e s some small f =
      deeper ws n (E.Unary Not e) w 17 18 (omega arith) (unary_fits_by ws n Not v w e s f)
  unary_fits U.ZeroExtend v w e s some small f =
      deeper ws n (E.Extend Zext (width_by w) e) w 17 18 (omega arith)
      (extend_fits ws n Zext v w 16 e s small (omega arith) f)
  unary_fits U.SignExtend v w e s some small f =
      deeper ws n (E.Extend Sext (width_by w) e) w 17 18 (omega arith)
      (extend_fits ws n Sext v w 16 e s small (omega arith) f)
  unary_fits U.CountOnes v w e s some small f =
      widened_by (w == 1) w (E.Count Popcount e) refl some small (count_fits ws n Popcount v e f)
  unary_fits U.CountLeadingZeros v w e s some small f =
      widened_by (w == 1) w (E.Count Lzcount e) refl some small (count_fits ws n Lzcount v e f)
  unary_fits U.BoolNegate v w e s some small f =
      arithmetic_fits ws n v 1 w e (constant 1 1) (deeper ws n e v 16 17 (omega arith) f)
      (deeper ws n (constant 1 1) 1 1 17 (omega arith) (constant_fits ws n 1 1 (omega arith) (omega arith)))
      Xor (s.0 ∙ sym s.1) (sym s.1)

  -- ---- parts of words

  module _ (u k : ℕ) (e : Expr) (f : Fits ws n e u 16) where
    within_by : (t : Bool) (w : ℕ)
        → (w == u) ≡ t
        → k + w ≤ u
        → 0 < w
        → w ≤ 16
        → Fits ws n (cond t e (E.Part k (width_by w) e)) w 17
    within_by true w is inside some small =
        let same : u ≡ w = grind (arith, nat_tests) in
        as_wide ws n e u w 17 same (deeper ws n e u 16 17 (omega arith) f)
    within_by false w is inside some small =
        let less : w < u = grind (arith, nat_tests) in
        part_fits ws n k u w e inside less some small f

    over_by : (t : Bool) (w : ℕ)
        → nat_le w (u - k) ≡ t
        → k < u
        → 0 < w
        → w ≤ 16
        → Fits ws n (cond t (within_node u k w e) (E.Extend Zext (width_by w) (within_node u k (u - k) e))) w 18
    over_by true w is inside some small =
        deeper ws n (within_node u k w e) w 17 18 (omega arith)
        (within_by (w == u) w refl (grind (arith, nat_tests)) some small)
    over_by false w is inside some small =
        let past : u - k < w = grind (arith, nat_tests) in
        extend_fits ws n Zext (u - k) w 17 (within_node u k (u - k) e) past small (omega arith)
        (within_by (u - k == u) (u - k) refl (omega arith) (omega arith) (omega (arith, past)))

    part_by : (t : Bool) (w : ℕ)
        → nat_le u k ≡ t
        → 0 < w
        → w ≤ 16
        → Fits ws n (cond t (constant w 0) (cond (nat_le w (u - k)) (within_node u k w e)
        (E.Extend Zext (width_by w) (within_node u k (u - k) e)))) w 18
    part_by true w is some small =
        deeper ws n (constant w 0) w 1 18 (omega arith) (constant_fits ws n w 0 some small)
    part_by false w is some small = over_by (nat_le w (u - k)) w refl (grind (arith, nat_tests)) some small

    pub part_node_fits : (w : ℕ) → 0 < w → w ≤ 16 → Fits ws n (part_node u k w e) w 18
    part_node_fits w some small = part_by (nat_le u k) w refl some small

  -- ---- two operands

  module _ (u k v w : ℕ) (d e : Expr) (some : 0 < w) (small : w ≤ 16) (one : Fits ws n d u 16)
      (other : Fits ws n e v 16) where
    -- what is cited below of the operands, a level deeper
    first : Fits ws n d u 17
    first = deeper ws n d u 16 17 (omega arith) one

    second : Fits ws n e v 17
    second = deeper ws n e v 16 17 (omega arith) other

    pub binary_fits : (op : Binary)
        → 0 < u
        → u ≤ 16
        → IsBinarySized op u v w
        → Fits ws n (binary_node op u k w d e) w 18
    binary_fits B.Piece from to s = concat_fits ws n u v w 17 d e s small (omega arith) first second
    binary_fits B.Subpiece from to s =
        let same : u ≡ nearest u = sym (nearest_is u from to) in
        part_node_fits (nearest u) k d (as_wide ws n d u (nearest u) 16 same one) w some small
    binary_fits B.Add from to s = arithmetic_fits ws n u v w d e first second Add s.0 s.1
    binary_fits B.Subtract from to s = arithmetic_fits ws n u v w d e first second Sub s.0 s.1
    binary_fits B.Multiply from to s = arithmetic_fits ws n u v w d e first second Mul s.0 s.1
    binary_fits B.And from to s = arithmetic_fits ws n u v w d e first second And s.0 s.1
    binary_fits B.Or from to s = arithmetic_fits ws n u v w d e first second Or s.0 s.1
    binary_fits B.Xor from to s = arithmetic_fits ws n u v w d e first second Xor s.0 s.1
    binary_fits B.Equal from to s = compare_fits ws n u v w d e first second Eq s.0 s.1
    binary_fits B.NotEqual from to s = compare_fits ws n u v w d e first second Ne s.0 s.1
    binary_fits B.Less from to s = compare_fits ws n u v w d e first second Lt s.0 s.1
    binary_fits B.LessEqual from to s = compare_fits ws n u v w d e first second Le s.0 s.1
    binary_fits B.SignedLess from to s = signed_compare_fits ws n u v w d e first second SLt s.0 s.1
    binary_fits B.SignedLessEqual from to s = signed_compare_fits ws n u v w d e first second SLe s.0 s.1
    binary_fits B.Carry from to s = overflow_fits ws n u v w d e first second Carry s.0 s.1
    binary_fits B.SignedCarry from to s = overflow_fits ws n u v w d e first second SCarry s.0 s.1
    binary_fits B.SignedBorrow from to s = overflow_fits ws n u v w d e first second SBorrow s.0 s.1
    binary_fits B.Left from to s = shift_fits ws n u v w d e first second Shl s
    binary_fits B.Right from to s = shift_fits ws n u v w d e first second Shr s
    binary_fits B.SignedRight from to s = shift_fits ws n u v w d e first second Sar s
    binary_fits B.BoolAnd from to s =
        arithmetic_fits ws n u v w d e first second And (s.0 ∙ sym s.2) (s.1 ∙ sym s.2)
    binary_fits B.BoolOr from to s =
        arithmetic_fits ws n u v w d e first second Or (s.0 ∙ sym s.2) (s.1 ∙ sym s.2)
    binary_fits B.BoolXor from to s =
        arithmetic_fits ws n u v w d e first second Xor (s.0 ∙ sym s.2) (s.1 ∙ sym s.2)

  -- ---- divisions by a constant

  module _ (w value : ℕ) (d : Expr) (some : 0 < w) (small : w ≤ 16) (below : value < limit w)
      (f : Fits ws n d w 16) where
    kept : value % limit (nearest w) ≡ value
    kept = ap (λ k. value % limit k) (nearest_is w some small) ∙ mod-eq_of_lt below

    unsigned_by : not (value == 0) ≡ true → not (value % limit (nearest w) == 0) ≡ true
    unsigned_by h = ap (λ x. not (x == 0)) kept ∙ h

    signed_by : (not (value == 0) && not (value == limit (nearest w) - 1)) ≡ true
        → (not (value % limit (nearest w) == 0) && not (value % limit (nearest w) == limit (nearest w) - 1)) ≡ true
    signed_by h = ap (λ x. not (x == 0) && not (x == limit (nearest w) - 1)) kept ∙ h

    -- where the constant lets the division have a value
    pub division_node_fits : (op : Divide)
        → divides_by op (nearest w) value ≡ true
        → Fits ws n (division_node op d (constant w value)) w 17
    division_node_fits D.Quotient h = division_fits ws n w value d some small f Div (unsigned_by h)
    division_node_fits D.Remainder h = division_fits ws n w value d some small f Rem (unsigned_by h)
    division_node_fits D.SignedQuotient h = signed_division_fits ws n w value d some small f SDiv (signed_by h)
    division_node_fits D.SignedRemainder h = signed_division_fits ws n w value d some small f SRem (signed_by h)

  -- ---- addresses

  -- an address, of whichever width
  pub record IsAddress (e : Expr) : Type 0 where
    pub width : ℕ
    pub fits : Fits ws n e width 18

  module _ (s k w : ℕ) (e : Expr) (some : 0 < s) (small : s ≤ 16) (wide : 0 < w) (narrow : w ≤ 16)
      (f : Fits ws n e w 16) where
    wider_by : (t : Bool)
        → nat_lt w s ≡ t
        → IsAddress
        (cond t (E.Arithmetic Mul (E.Extend Zext (width_by s) e) (constant s k)) (E.Arithmetic Mul e (constant w k)))
    wider_by true is = record {
      width = s;
      fits = arithmetic_fits ws n s s s (E.Extend Zext (width_by s) e) (constant s k)
          (extend_fits ws n Zext w s 16 e (grind (arith, nat_tests)) small (omega arith) f)
          (deeper ws n (constant s k) s 1 17 (omega arith) (constant_fits ws n s k some small)) Mul refl refl;
    }
    wider_by false is = record {
      width = w;
      fits = arithmetic_fits ws n w w w e (constant w k) (deeper ws n e w 16 17 (omega arith) f)
          (deeper ws n (constant w k) w 1 17 (omega arith) (constant_fits ws n w k wide narrow)) Mul refl refl;
    }

    address_by : (t : Bool)
        → IsAddress (cond t e (cond (nat_lt w s) (E.Arithmetic Mul (E.Extend Zext (width_by s) e) (constant s k))
        (E.Arithmetic Mul e (constant w k))))
    address_by true = record { width = w; fits = deeper ws n e w 16 18 (omega arith) f }
    address_by false = wider_by (nat_lt w s) refl

    pub address_fits : IsAddress (address_node s k w e)
    address_fits = address_by (k == 1)
