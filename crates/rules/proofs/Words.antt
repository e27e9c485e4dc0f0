-- The value of an expression of right widths is a word of its width; and under a reading that has every quotient it has
-- a value.
use Rattle.std.proofs.Common.{◌≡◌, ℕ, ◌+◌, ◌<◌, ◌==◌, nat_lt, nat_le, Bool, true, false, if◌then◌else◌, Option, Some, None, refl, sym, ap, ◌∙◌, subst, arith}
use Rattle.std.proofs.lemmas.Bool.{eqb-true, ltb-true}
use Rattle.std.proofs.Math.Nat.{mod-lt}
use Rattle.bits_core.specs.declared.word.Width.{Width}
use Rattle.bits_core.specs.declared.word.Word.{Word}
use Rattle.bits_core.specs.declared.ops.Unary.{Unary}
use Rattle.bits_core.specs.declared.ops.Binary.{Binary}
use Rattle.bits_core.specs.declared.ops.Binary.TheVariants as B
use Rattle.bits_core.specs.declared.ops.Divide.{Divide}
use Rattle.bits_core.proofs.Limits.{limit_pos}
use Rattle.bits_core.specs.Value.{limit, part, IsUnarySized, IsBinarySized, unary_value, binary_value, quotient_or_rest}
use Rattle.laws.proofs.Words.{unary_word, binary_word, divided_word}
use Rattle.cmeaning.specs.declared.tree.UnaryOp.{UnaryOp}
use Rattle.cmeaning.specs.declared.tree.UnaryOp.TheVariants.{Neg, Not}
use Rattle.cmeaning.specs.declared.tree.ArithmeticOp.{ArithmeticOp}
use Rattle.cmeaning.specs.declared.tree.ArithmeticOp.TheVariants.{Add, Sub, Mul, And, Or, Xor}
use Rattle.cmeaning.specs.declared.tree.DivisionOp.{DivisionOp}
use Rattle.cmeaning.specs.declared.tree.SignedDivisionOp.{SignedDivisionOp}
use Rattle.cmeaning.specs.declared.tree.ShiftOp.{ShiftOp}
use Rattle.cmeaning.specs.declared.tree.ShiftOp.TheVariants.{Shl, Shr, Sar}
use Rattle.cmeaning.specs.declared.tree.CompareOp.{CompareOp}
use Rattle.cmeaning.specs.declared.tree.CompareOp.TheVariants.{Eq, Ne, Lt, Le}
use Rattle.cmeaning.specs.declared.tree.SignedCompareOp.{SignedCompareOp}
use Rattle.cmeaning.specs.declared.tree.SignedCompareOp.TheVariants.{SLt, SLe}
use Rattle.cmeaning.specs.declared.tree.ExtendOp.{ExtendOp}
use Rattle.cmeaning.specs.declared.tree.ExtendOp.TheVariants.{Zext, Sext}
use Rattle.cmeaning.specs.declared.tree.OverflowOp.{OverflowOp}
use Rattle.cmeaning.specs.declared.tree.OverflowOp.TheVariants.{Carry, SCarry, SBorrow}
use Rattle.cmeaning.specs.declared.tree.CountOp.{CountOp}
use Rattle.cmeaning.specs.declared.tree.CountOp.TheVariants.{Popcount, Lzcount}
use Rattle.cmeaning.specs.declared.tree.Expr.{Expr, ind-Expr, roll-Expr, map-Expr}
use Rattle.cmeaning.specs.declared.tree.Expr.TheOpen.{Expr-F}
use Rattle.cmeaning.specs.Shape.{is_part}
use Rattle.cmeaning.specs.Value.{unary_of, arithmetic_of, division_of, signed_division_of, shift_of, compare_of, signed_compare_of, extend_of, overflow_of, count_of, with_value, with_values, Meaning}
use Rattle.rules.specs.Size.{one_size, two_size, size_step, size_of, AreWords}
use Rattle.rules.specs.Readings.{Reading, IsReading, reading_step, read_as}
use Rattle.rules.proofs.Nodes.{size_roll, read_roll}

-- a meaning of width w, where the widths are right, and its value, if any, is a word
pub record IsGood (env : ℕ → Option ℕ) (m : Meaning) (w : ℕ) : Type 0 where
  pub width : m.width ≡ w
  pub some : 0 < w
  pub below : (n : ℕ) → m.value env ≡ Some n → n < limit w

abbrev pub Good : (ℕ → Option ℕ) → Meaning → Option ℕ → Type 0
Good env m o = (w : ℕ) → o ≡ Some w → IsGood env m w

pub some_is : {A : Type 0} (x y : A) → Some x ≡ Some y → x ≡ y
some_is x y is = cc

pub chosen : (b : Bool) (r w : ℕ) → (if b then Some r else None) ≡ Some w → (b ≡ true) × (r ≡ w)
chosen true r w is = (refl, cc)
chosen false r w is = cc

pub value_one : (v : ℕ → Option ℕ) (o : Option ℕ) (n : ℕ) → with_value o v ≡ Some n
    → (a : ℕ) × ((o ≡ Some a) × (v a ≡ Some n))
value_one v None n is = cc
value_one v (Some a) n is = (a, (refl, is))

pub value_two : (v : ℕ → ℕ → Option ℕ) (o p : Option ℕ) (n : ℕ) → with_values o p v ≡ Some n
    → (a : ℕ) × ((b : ℕ) × ((o ≡ Some a) × (p ≡ Some b) × (v a b ≡ Some n)))
value_two v None p n is = cc
value_two v (Some a) None n is = cc
value_two v (Some a) (Some b) n is = (a, (b, (refl, refl, is)))

-- of one operand
one_good : (env : ℕ → Option ℕ) (right : ℕ → Bool) (to : ℕ → ℕ) (v : ℕ → ℕ → Option ℕ) (m : Meaning) (o : Option ℕ)
    → ((u a n : ℕ) → right u ≡ true → 0 < u → a < limit u → v u a ≡ Some n → n < limit (to u))
    → ((u : ℕ) → right u ≡ true → 0 < u → 0 < to u)
    → Good env m o
    → Good env (record { width = to m.width; value = λ x. with_value (m.value x) (v m.width) }) (one_size right to o)
one_good env right to v m None fits some g w is = cc
one_good env right to v m (Some u) fits some g w is =
    let c = chosen (right u) (to u) w is in
    let a = g u refl in
    record {
      width = ap to a.width ∙ c.1;
      some = subst (λ n. 0 < n) c.1 (some u c.0 a.some);
      below = λ n at. (
          let x = value_one (v m.width) (m.value env) n at in
          let is : v u x.0 ≡ Some n = ap (λ z. v z x.0) (sym a.width) ∙ x.1.1 in
          subst (λ z. n < limit z) c.1 (fits u x.0 n c.0 a.some (a.below x.0 x.1.0) is));
    }

-- of two operands, with a value that may be lacking
two_good : (env : ℕ → Option ℕ) (right : ℕ → ℕ → Bool) (to : ℕ → ℕ → ℕ) (v : ℕ → ℕ → ℕ → ℕ → Option ℕ)
    (m k : Meaning) (o p : Option ℕ)
    → ((t u a b n : ℕ) → right t u ≡ true → 0 < t → 0 < u → a < limit t → b < limit u → v t u a b ≡ Some n
    → n < limit (to t u))
    → ((t u : ℕ) → right t u ≡ true → 0 < t → 0 < u → 0 < to t u)
    → Good env m o → Good env k p
    → Good env
    (record { width = to m.width k.width; value = λ x. with_values (m.value x) (k.value x) (v m.width k.width) })
    (two_size right to o p)
two_good env right to v m k None p fits some g h w is = cc
two_good env right to v m k (Some t) None fits some g h w is = cc
two_good env right to v m k (Some t) (Some u) fits some g h w is =
    let c = chosen (right t u) (to t u) w is in
    let a = g t refl in
    let b = h u refl in
    record {
      width = ap (λ n. to n k.width) a.width ∙ ap (λ n. to t n) b.width ∙ c.1;
      some = subst (λ n. 0 < n) c.1 (some t u c.0 a.some b.some);
      below = λ n at. (
          let x = value_two (v m.width k.width) (m.value env) (k.value env) n at in
          let l : v t k.width x.0 x.1.0 ≡ v m.width k.width x.0 x.1.0 = ap (λ z. v z k.width x.0 x.1.0) (sym a.width) in
          let r : v t u x.0 x.1.0 ≡ v t k.width x.0 x.1.0 = ap (λ z. v t z x.0 x.1.0) (sym b.width) in
          let p : x.0 < limit t = a.below x.0 x.1.1.0 in
          let q : x.1.0 < limit u = b.below x.1.0 x.1.1.1 in
          subst (λ z. n < limit z) c.1 (fits t u x.0 x.1.0 n c.0 a.some b.some p q (r ∙ l ∙ x.1.1.2)));
    }

-- ---- each operation gives a word

pub eq_of : (a b : ℕ) → (a == b) ≡ true → a ≡ b
eq_of a b h = grind (arith, eqb-true)

unary_fits : (op : Unary) (w u a n : ℕ) → 0 < w → IsUnarySized op u w → a < limit u
    → Some (unary_value op u a w) ≡ Some n → n < limit w
unary_fits op w u a n some s p is = subst (λ z. z < limit w) (some_is _ _ is) (unary_word op u w a some s p)

binary_fits : (op : Binary) (w t u a b n : ℕ) → 0 < w → IsBinarySized op t u w → a < limit t → b < limit u
    → Some (binary_value op t a u b w) ≡ Some n → n < limit w
binary_fits op w t u a b n some s p q is =
    subst (λ z. z < limit w) (some_is _ _ is) (binary_word op t u w a b some s p q)

part_fits : (w x k n : ℕ) → Some (part x k w) ≡ Some n → n < limit w
unfolding part
part_fits w x k n at = subst (λ z. z < limit w) (some_is _ _ at) (mod-lt _ (limit_pos w))

quotient_fits : (op : Divide) (w a b n : ℕ) → a < limit w → quotient_or_rest op w a b ≡ n → n < limit w
quotient_fits op w a b n p is = subst (λ z. z < limit w) is (divided_word op w a b p)

unary_sized : (op : UnaryOp) (u : ℕ) → IsUnarySized (unary_of op) u u
unary_sized Neg u = refl
unary_sized Not u = refl

arithmetic_sized : (op : ArithmeticOp) (t u : ℕ) → t ≡ u → IsBinarySized (arithmetic_of op) t u t
arithmetic_sized Add t u e = (refl, sym e)
arithmetic_sized Sub t u e = (refl, sym e)
arithmetic_sized Mul t u e = (refl, sym e)
arithmetic_sized And t u e = (refl, sym e)
arithmetic_sized Or t u e = (refl, sym e)
arithmetic_sized Xor t u e = (refl, sym e)

shift_sized : (op : ShiftOp) (t u : ℕ) → IsBinarySized (shift_of op) t u t
shift_sized Shl t u = refl
shift_sized Shr t u = refl
shift_sized Sar t u = refl

compare_sized : (op : CompareOp) (t u : ℕ) → t ≡ u → IsBinarySized (compare_of op) t u 1
compare_sized Eq t u e = (e, refl)
compare_sized Ne t u e = (e, refl)
compare_sized Lt t u e = (e, refl)
compare_sized Le t u e = (e, refl)

signed_compare_sized : (op : SignedCompareOp) (t u : ℕ) → t ≡ u → IsBinarySized (signed_compare_of op) t u 1
signed_compare_sized SLt t u e = (e, refl)
signed_compare_sized SLe t u e = (e, refl)

overflow_sized : (op : OverflowOp) (t u : ℕ) → t ≡ u → IsBinarySized (overflow_of op) t u 1
overflow_sized Carry t u e = (e, refl)
overflow_sized SCarry t u e = (e, refl)
overflow_sized SBorrow t u e = (e, refl)

extend_sized : (op : ExtendOp) (u w : ℕ) → nat_lt u w ≡ true → IsUnarySized (extend_of op) u w
extend_sized Zext u w h = grind (arith, ltb-true)
extend_sized Sext u w h = grind (arith, ltb-true)

count_sized : (op : CountOp) (u : ℕ) → IsUnarySized (count_of op) u 1
count_sized Popcount u = tt
count_sized Lzcount u = tt

one_some : 0 < 1
one_some = omega arith

module _ (r : Reading) (reads : IsReading r) (ws : ℕ → ℕ) (env : ℕ → Option ℕ) (words : AreWords ws env) where
  rolled : (l : Expr-F Expr)
      → Good env (reading_step r ws (map-Expr Expr Meaning (read_as r ws) l))
      (size_step ws (map-Expr Expr (Option ℕ) (size_of ws) l))
      → Good env (read_as r ws (roll-Expr l)) (size_of ws (roll-Expr l))
  rolled l g w is = subst (λ m. IsGood env m w) (sym (read_roll r ws l)) (g w (sym (size_roll ws l) ∙ is))

  const_good : (c : Word) → Good env (record { width = c.width.bytes; value = λ x. Some c.value }) (Some c.width.bytes)
  const_good c w is =
      let e : c.width.bytes ≡ w = some_is _ _ is in
      record {
        width = e;
        some = subst (λ n. 0 < n) e c.width.from;
        below = λ n at. subst (λ z. n < limit z) e (subst (λ z. z < limit c.width.bytes) (some_is _ _ at) c.below);
      }

  var_good : (v : ℕ)
      → Good env (record { width = ws v; value = λ x. x v }) (if nat_lt 0 (ws v) then Some (ws v) else None)
  var_good v w is =
      let c = chosen (nat_lt 0 (ws v)) (ws v) w is in
      let some : 0 < ws v = grind (arith, ltb-true, c.0) in
      record {
        width = c.1;
        some = subst (λ n. 0 < n) c.1 some;
        below = λ n at. subst (λ z. n < limit z) c.1 (words v n at);
      }

  -- by the operands of a node, of whatever type they are before they are expressions
  module _ {A : Type 0} (f : A → Expr) where
    abbrev m : A → Meaning
    m a = read_as r ws (f a)

    abbrev s : A → Option ℕ
    s a = size_of ws (f a)

    unary_good : (op : UnaryOp) (a : A) → Good env (m a) (s a)
        → Good env (reading_step r ws (Expr-F.Unary op (m a))) (size_step ws (Expr-F.Unary op (s a)))
    unary_good op a h = one_good env (λ v. true) (λ v. v) (λ u x. Some (unary_value (unary_of op) u x u)) (m a) (s a)
        (λ u x n g some p at. unary_fits (unary_of op) u u x n some (unary_sized op u) p at) (λ u g some. some) h

    extend_good : (op : ExtendOp) (w : Width) (a : A) → Good env (m a) (s a)
        → Good env (reading_step r ws (Expr-F.Extend op w (m a))) (size_step ws (Expr-F.Extend op w (s a)))
    extend_good op w a h = one_good env (λ v. nat_lt v w.bytes) (λ v. w.bytes)
        (λ u x. Some (unary_value (extend_of op) u x w.bytes)) (m a) (s a)
        (λ u x n g some p at. unary_fits (extend_of op) w.bytes u x n w.from (extend_sized op u w.bytes g) p at)
        (λ u g some. w.from) h

    part_good : (k : ℕ) (w : Width) (a : A) → Good env (m a) (s a)
        → Good env (reading_step r ws (Expr-F.Part k w (m a))) (size_step ws (Expr-F.Part k w (s a)))
    part_good k w a h = one_good env (is_part k w.bytes) (λ v. w.bytes)
        (λ u x. Some (binary_value B.Subpiece u x 1 k w.bytes)) (m a) (s a)
        (λ u x n g some p at. part_fits w.bytes x k n at) (λ u g some. w.from) h

    count_good : (op : CountOp) (a : A) → Good env (m a) (s a)
        → Good env (reading_step r ws (Expr-F.Count op (m a))) (size_step ws (Expr-F.Count op (s a)))
    count_good op a h = one_good env (λ v. true) (λ v. 1) (λ u x. Some (unary_value (count_of op) u x 1)) (m a) (s a)
        (λ u x n g some p at. unary_fits (count_of op) 1 u x n one_some (count_sized op u) p at)
        (λ u g some. one_some) h

    module _ (a b : A) (ga : Good env (m a) (s a)) (gb : Good env (m b) (s b)) where
      arithmetic_good : (op : ArithmeticOp)
          → Good env (reading_step r ws (Expr-F.Arithmetic op (m a) (m b)))
          (size_step ws (Expr-F.Arithmetic op (s a) (s b)))
      arithmetic_good op = two_good env (λ v w. v == w) (λ v w. v)
          (λ t u x y. Some (binary_value (arithmetic_of op) t x u y t)) (m a) (m b) (s a) (s b)
          (λ t u x y n g h i p q at.
          binary_fits (arithmetic_of op) t t u x y n h (arithmetic_sized op t u (eq_of t u g)) p q at)
          (λ t u g h i. h) ga gb

      division_good : (op : DivisionOp)
          → Good env (reading_step r ws (Expr-F.Division op (m a) (m b)))
          (size_step ws (Expr-F.Division op (s a) (s b)))
      division_good op =
          two_good env (λ v w. v == w) (λ v w. v) (λ t u. r.plain (division_of op) t) (m a) (m b) (s a) (s b)
          (λ t u x y n g h i p q at. quotient_fits (division_of op) t x y n p (reads.plain (division_of op) t x y n at))
          (λ t u g h i. h) ga gb

      signed_division_good : (op : SignedDivisionOp)
          → Good env (reading_step r ws (Expr-F.SignedDivision op (m a) (m b)))
          (size_step ws (Expr-F.SignedDivision op (s a) (s b)))
      signed_division_good op = two_good env (λ v w. v == w) (λ v w. v) (λ t u. r.signed (signed_division_of op) t)
          (m a) (m b) (s a) (s b)
          (λ t u x y n g h i p q at. quotient_fits (signed_division_of op) t x y n p
          (reads.signed (signed_division_of op) t x y n at))
          (λ t u g h i. h) ga gb

      shift_good : (op : ShiftOp)
          → Good env (reading_step r ws (Expr-F.Shift op (m a) (m b))) (size_step ws (Expr-F.Shift op (s a) (s b)))
      shift_good op = two_good env (λ v w. true) (λ v w. v)
          (λ t u x y. Some (binary_value (shift_of op) t x u y t)) (m a) (m b) (s a) (s b)
          (λ t u x y n g h i p q at. binary_fits (shift_of op) t t u x y n h (shift_sized op t u) p q at)
          (λ t u g h i. h) ga gb

      compare_good : (op : CompareOp)
          → Good env (reading_step r ws (Expr-F.Compare op (m a) (m b))) (size_step ws (Expr-F.Compare op (s a) (s b)))
      compare_good op = two_good env (λ v w. v == w) (λ v w. 1)
          (λ t u x y. Some (binary_value (compare_of op) t x u y 1)) (m a) (m b) (s a) (s b)
          (λ t u x y n g h i p q at.
          binary_fits (compare_of op) 1 t u x y n one_some (compare_sized op t u (eq_of t u g)) p q at)
          (λ t u g h i. one_some) ga gb

      signed_compare_good : (op : SignedCompareOp)
          → Good env (reading_step r ws (Expr-F.SignedCompare op (m a) (m b)))
          (size_step ws (Expr-F.SignedCompare op (s a) (s b)))
      signed_compare_good op = two_good env (λ v w. v == w) (λ v w. 1)
          (λ t u x y. Some (binary_value (signed_compare_of op) t x u y 1)) (m a) (m b) (s a) (s b)
          (λ t u x y n g h i p q at. binary_fits (signed_compare_of op) 1 t u x y n one_some
          (signed_compare_sized op t u (eq_of t u g)) p q at)
          (λ t u g h i. one_some) ga gb

      concat_good : Good env (reading_step r ws (Expr-F.Concat (m a) (m b))) (size_step ws (Expr-F.Concat (s a) (s b)))
      concat_good = two_good env (λ v w. nat_le (v + w) 16) (λ v w. v + w)
          (λ t u x y. Some (binary_value B.Piece t x u y (t + u))) (m a) (m b) (s a) (s b)
          (λ t u x y n g h i p q at. binary_fits B.Piece (t + u) t u x y n (omega arith) refl p q at)
          (λ t u g h i. omega arith) ga gb

      overflow_good : (op : OverflowOp)
          → Good env (reading_step r ws (Expr-F.Overflow op (m a) (m b)))
          (size_step ws (Expr-F.Overflow op (s a) (s b)))
      overflow_good op = two_good env (λ v w. v == w) (λ v w. 1)
          (λ t u x y. Some (binary_value (overflow_of op) t x u y 1)) (m a) (m b) (s a) (s b)
          (λ t u x y n g h i p q at.
          binary_fits (overflow_of op) 1 t u x y n one_some (overflow_sized op t u (eq_of t u g)) p q at)
          (λ t u g h i. one_some) ga gb

  layer_good : {A : Type 0} (f : A → Expr)
      → ((a : A) → Good env (read_as r ws (f a)) (size_of ws (f a)))
      → (l : Expr-F A)
      → Good env (read_as r ws (roll-Expr (map-Expr A Expr f l))) (size_of ws (roll-Expr (map-Expr A Expr f l)))
  layer_good f h (Expr-F.Const c) = rolled (Expr-F.Const c) (const_good c)
  layer_good f h (Expr-F.Var v) = rolled (Expr-F.Var v) (var_good v)
  layer_good f h (Expr-F.Unary op a) = rolled (Expr-F.Unary op (f a)) (unary_good f op a (h a))
  layer_good f h (Expr-F.Arithmetic op a b) =
      rolled (Expr-F.Arithmetic op (f a) (f b)) (arithmetic_good f a b (h a) (h b) op)
  layer_good f h (Expr-F.Division op a b) = rolled (Expr-F.Division op (f a) (f b)) (division_good f a b (h a) (h b) op)
  layer_good f h (Expr-F.SignedDivision op a b) =
      rolled (Expr-F.SignedDivision op (f a) (f b)) (signed_division_good f a b (h a) (h b) op)
  layer_good f h (Expr-F.Shift op a b) = rolled (Expr-F.Shift op (f a) (f b)) (shift_good f a b (h a) (h b) op)
  layer_good f h (Expr-F.Compare op a b) = rolled (Expr-F.Compare op (f a) (f b)) (compare_good f a b (h a) (h b) op)
  layer_good f h (Expr-F.SignedCompare op a b) =
      rolled (Expr-F.SignedCompare op (f a) (f b)) (signed_compare_good f a b (h a) (h b) op)
  layer_good f h (Expr-F.Extend op w a) = rolled (Expr-F.Extend op w (f a)) (extend_good f op w a (h a))
  layer_good f h (Expr-F.Part k w a) = rolled (Expr-F.Part k w (f a)) (part_good f k w a (h a))
  layer_good f h (Expr-F.Concat a b) = rolled (Expr-F.Concat (f a) (f b)) (concat_good f a b (h a) (h b))
  layer_good f h (Expr-F.Overflow op a b) = rolled (Expr-F.Overflow op (f a) (f b)) (overflow_good f a b (h a) (h b) op)
  layer_good f h (Expr-F.Count op a) = rolled (Expr-F.Count op (f a)) (count_good f op a (h a))

  pub good : (e : Expr) → Good env (read_as r ws e) (size_of ws e)
  good = ind-Expr (λ e. Good env (read_as r ws e) (size_of ws e))
      (λ l y is. let P : Expr-F Expr → Type 0 = λ z. Good env (read_as r ws (roll-Expr z)) (size_of ws (roll-Expr z)) in
      subst P is (layer_good (λ p. p.0) (λ p. p.1) y))
