-- What the p-code operations give is the number of the node.
use Rattle.std.proofs.Common.{◌≡◌, ℕ, ◌+◌, ◌<◌, ◌≤◌, ◌==◌, Bool, true, false, if◌then◌else◌, Option, Some, None, MatchOption, refl, sym, subst}
use Rattle.std.proofs.lemmas.Bool.{eq-eqb}
use Rattle.bits_core.specs.declared.word.Width.{Width}
use Rattle.bits_core.specs.declared.word.Word.{Word}
use Rattle.bits_core.specs.declared.ops.Unary.{Unary}
use Rattle.bits_core.specs.declared.ops.Binary.{Binary}
use Rattle.bits_core.specs.declared.ops.Binary.TheVariants as B
use Rattle.bits_core.specs.declared.ops.Divide.{Divide}
use Rattle.bits_core.specs.Value.{IsUnarySized, IsBinarySized, unary_value, binary_value, quotient_or_rest, divide_value}
use Rattle.cmeaning.specs.declared.tree.UnaryOp.{UnaryOp}
use Rattle.cmeaning.specs.declared.tree.UnaryOp.TheVariants as U
use Rattle.cmeaning.specs.declared.tree.ArithmeticOp.{ArithmeticOp}
use Rattle.cmeaning.specs.declared.tree.DivisionOp.{DivisionOp}
use Rattle.cmeaning.specs.declared.tree.SignedDivisionOp.{SignedDivisionOp}
use Rattle.cmeaning.specs.declared.tree.ShiftOp.{ShiftOp}
use Rattle.cmeaning.specs.declared.tree.ShiftOp.TheVariants as H
use Rattle.cmeaning.specs.declared.tree.CompareOp.{CompareOp}
use Rattle.cmeaning.specs.declared.tree.CompareOp.TheVariants as C
use Rattle.cmeaning.specs.declared.tree.SignedCompareOp.{SignedCompareOp}
use Rattle.cmeaning.specs.declared.tree.SignedCompareOp.TheVariants as I
use Rattle.cmeaning.specs.declared.tree.ExtendOp.{ExtendOp}
use Rattle.cmeaning.specs.declared.tree.ExtendOp.TheVariants as X
use Rattle.cmeaning.specs.declared.tree.OverflowOp.{OverflowOp}
use Rattle.cmeaning.specs.declared.tree.OverflowOp.TheVariants as V
use Rattle.cmeaning.specs.declared.tree.CountOp.{CountOp}
use Rattle.cmeaning.specs.declared.tree.CountOp.TheVariants as K
use Rattle.cmeaning.specs.Value.{unary_of, extend_of, count_of, shift_of, compare_of, signed_compare_of, overflow_of, division_of, signed_division_of}
use Rattle.rules.specs.Letters.{IsWord, Folds}
use Rattle.rule_views.specs.declared.nodes.Single.TheVariants as S
use Rattle.rule_views.specs.declared.nodes.Pair.{Pair}
use Rattle.rule_views.specs.declared.nodes.Pair.TheVariants as P
use Rattle.rule_folds.specs.Values.{SingleAgrees, IsSingleValue, Divides, NoPairValue, IsPairValue, IsQuotient}

-- ---- the size rules of the operations

unary_sized : (op : UnaryOp) (v : ℕ) → IsUnarySized (unary_of op) v v
unary_sized U.Neg v = refl
unary_sized U.Not v = refl

extend_sized : (op : ExtendOp) (v : ℕ) (w : Width) → SingleAgrees (S.Extend op w) v
    → IsUnarySized (extend_of op) v w.bytes
extend_sized X.Zext v w h = h
extend_sized X.Sext v w h = h

count_sized : (op : CountOp) (v : ℕ) → IsUnarySized (count_of op) v 1
count_sized K.Popcount v = tt
count_sized K.Lzcount v = tt

shift_sized : (op : ShiftOp) (v u : ℕ) → IsBinarySized (shift_of op) v u v
shift_sized H.Shl v u = refl
shift_sized H.Shr v u = refl
shift_sized H.Sar v u = refl

compare_sized : (op : CompareOp) (v u : ℕ) → v ≡ u → IsBinarySized (compare_of op) v u 1
compare_sized C.Eq v u h = (h, refl)
compare_sized C.Ne v u h = (h, refl)
compare_sized C.Lt v u h = (h, refl)
compare_sized C.Le v u h = (h, refl)

signed_compare_sized : (op : SignedCompareOp) (v u : ℕ) → v ≡ u → IsBinarySized (signed_compare_of op) v u 1
signed_compare_sized I.SLt v u h = (h, refl)
signed_compare_sized I.SLe v u h = (h, refl)

overflow_sized : (op : OverflowOp) (v u : ℕ) → v ≡ u → IsBinarySized (overflow_of op) v u 1
overflow_sized V.Carry v u h = (h, refl)
overflow_sized V.SCarry v u h = (h, refl)
overflow_sized V.SBorrow v u h = (h, refl)

-- ---- of one constant

-- what an operation of one constant answers
abbrev One : Unary → Word → ℕ → Word → Type 0
One op c w e = IsUnarySized op c.width.bytes w → IsWord w (unary_value op c.width.bytes c.value w) e

module _ (c e : Word) where
  pub unary_is : (op : UnaryOp) (o : Unary) → o ≡ unary_of op → One o c c.width.bytes e → IsSingleValue (S.Unary op) c e
  unary_is op o same one = (subst (λ q. One q c c.width.bytes e) same one) (unary_sized op c.width.bytes)

  pub extend_is : (op : ExtendOp) (w : Width) (o : Unary) → o ≡ extend_of op → One o c w.bytes e
      → c.width.bytes < w.bytes → IsSingleValue (S.Extend op w) c e
  extend_is op w o same one less = (subst (λ q. One q c w.bytes e) same one) (extend_sized op c.width.bytes w less)

  pub count_is : (op : CountOp) (o : Unary) (w : ℕ) → o ≡ count_of op → w ≡ 1 → One o c w e
      → IsSingleValue (S.Count op) c e
  count_is op o w same byte one =
      let f : One (count_of op) c 1 e = subst (λ v. One (count_of op) c v e) byte (subst (λ q. One q c w e) same one) in
      f (count_sized op c.width.bytes)

-- ---- of two constants

abbrev Two : Binary → Word → Word → ℕ → Word → Type 0
Two op c d w e = IsBinarySized op c.width.bytes d.width.bytes w
    → IsWord w (binary_value op c.width.bytes c.value d.width.bytes d.value w) e

module _ (c d e : Word) where
  pub arithmetic_is : (op : ArithmeticOp) → (c.width.bytes ≡ d.width.bytes → Folds op c d e)
      → c.width.bytes ≡ d.width.bytes → IsPairValue (P.Arithmetic op) c d e
  arithmetic_is op f same = record { word = f same; divides = λ h z. h }

  pub shift_is : (op : ShiftOp) (o : Binary) → o ≡ shift_of op → Two o c d c.width.bytes e
      → IsPairValue (P.Shift op) c d e
  shift_is op o same two =
      let f : Two (shift_of op) c d c.width.bytes e = subst (λ q. Two q c d c.width.bytes e) same two in
      record { word = f (shift_sized op c.width.bytes d.width.bytes); divides = λ h z. h }

  -- a test, whose width is 1
  tested : (o q : Binary) (w : ℕ) → w ≡ 1 → o ≡ q → Two o c d w e → Two q c d 1 e
  tested o q w byte same two = subst (λ v. Two q c d v e) byte (subst (λ r. Two r c d w e) same two)

  pub compare_is : (op : CompareOp) (o : Binary) (w : ℕ) → w ≡ 1 → o ≡ compare_of op → Two o c d w e
      → c.width.bytes ≡ d.width.bytes → IsPairValue (P.Compare op) c d e
  compare_is op o w byte same two wide = record {
    word = tested o (compare_of op) w byte same two (compare_sized op c.width.bytes d.width.bytes wide);
    divides = λ h z. h;
  }

  pub signed_compare_is : (op : SignedCompareOp) (o : Binary) (w : ℕ) → w ≡ 1 → o ≡ signed_compare_of op
      → Two o c d w e → c.width.bytes ≡ d.width.bytes → IsPairValue (P.SignedCompare op) c d e
  signed_compare_is op o w byte same two wide = record {
    word = tested o (signed_compare_of op) w byte same two (signed_compare_sized op c.width.bytes d.width.bytes wide);
    divides = λ h z. h;
  }

  pub overflow_is : (op : OverflowOp) (o : Binary) (w : ℕ) → w ≡ 1 → o ≡ overflow_of op → Two o c d w e
      → c.width.bytes ≡ d.width.bytes → IsPairValue (P.Overflow op) c d e
  overflow_is op o w byte same two wide = record {
    word = tested o (overflow_of op) w byte same two (overflow_sized op c.width.bytes d.width.bytes wide);
    divides = λ h z. h;
  }

  pub concat_is : (w : ℕ) → (c.width.bytes + d.width.bytes ≤ 16 → w ≡ c.width.bytes + d.width.bytes)
      → Two B.Piece c d w e → c.width.bytes + d.width.bytes ≤ 16 → IsPairValue P.Concat c d e
  concat_is w wide two fits =
      let f : Two B.Piece c d (c.width.bytes + d.width.bytes) e = subst (λ v. Two B.Piece c d v e) (wide fits) two in
      record { word = f refl; divides = λ h z. h }

-- ---- divisions

kept : (b : Bool) (m n : ℕ) → (if b then None else Some m) ≡ Some n → (b ≡ false) × (m ≡ n)
kept true m n is = cc
kept false m n is = (refl, cc)

pub divided : (op : Divide) (c d q : Word) → divide_value op c.width.bytes c.value d.value ≡ Some q.value
    → q.width.bytes ≡ c.width.bytes → IsQuotient op c d q
divided op c d q is width =
    let k = kept (d.value == 0) (quotient_or_rest op c.width.bytes c.value d.value) q.value is in
    record {
      word = record { width = width; value = sym k.1 };
      divides = λ z. let e : (d.value == 0) ≡ true = eq-eqb d.value 0 z in
          let f : (d.value == 0) ≡ false = k.0 in absurd cc;
    }

abbrev Quotient : Divide → Word → Word → Option Word → Type 0
Quotient op c d r = c.width.bytes ≡ d.width.bytes → MatchOption r (d.value ≡ 0) (IsQuotient op c d)

division_by : (p : Pair) (op : Divide) (c d : Word) (r : Option Word) → Divides p
    → MatchOption r (d.value ≡ 0) (IsQuotient op c d)
    → ((e : Word) → IsQuotient op c d e → IsPairValue p c d e)
    → MatchOption r (NoPairValue p d) (IsPairValue p c d)
division_by p op c d None h m f = (h, m)
division_by p op c d (Some e) h m f = f e m

module _ (c d : Word) (r : Option Word) (o : Divide) (q : Quotient o c d r) (wide : c.width.bytes ≡ d.width.bytes) where
  pub division_is : (op : DivisionOp) → o ≡ division_of op
      → MatchOption r (NoPairValue (P.Division op) d) (IsPairValue (P.Division op) c d)
  division_is op same =
      division_by (P.Division op) (division_of op) c d r tt (subst (λ t. Quotient t c d r) same q wide)
      (λ e m. record { word = m.word; divides = λ h. m.divides })

  pub signed_division_is : (op : SignedDivisionOp) → o ≡ signed_division_of op
      → MatchOption r (NoPairValue (P.SignedDivision op) d) (IsPairValue (P.SignedDivision op) c d)
  signed_division_is op same =
      division_by (P.SignedDivision op) (signed_division_of op) c d r tt (subst (λ t. Quotient t c d r) same q wide)
      (λ e m. record { word = m.word; divides = λ h. m.divides })

pub division_divides : (p : Pair) (op : DivisionOp) → p ≡ P.Division op → (Divides p → ⊥) → ⊥
division_divides p op is n = n (subst Divides (sym is) tt)

pub signed_division_divides : (p : Pair) (op : SignedDivisionOp) → p ≡ P.SignedDivision op → (Divides p → ⊥) → ⊥
signed_division_divides p op is n = n (subst Divides (sym is) tt)
