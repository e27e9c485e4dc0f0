-- Under a reading that has every quotient an expression of right widths has a value, whatever its divisors are. So what
-- is proved of expressions with a value says of each expression of right widths that its width is kept.
use Rattle.std.proofs.Common.{◌≡◌, ℕ, ◌+◌, ◌<◌, ◌==◌, nat_lt, nat_le, Bool, true, Option, Some, None, refl, sym, ap, ◌∙◌, subst}
use Rattle.bits_core.specs.declared.ops.Binary.TheVariants as B
use Rattle.bits_core.specs.Value.{limit, unary_value, binary_value, quotient_or_rest}
use Rattle.bits_core.proofs.Limits.{limit_pos}
use Rattle.cmeaning.specs.declared.tree.Expr.{Expr, ind-Expr, roll-Expr, map-Expr}
use Rattle.cmeaning.specs.declared.tree.Expr.TheOpen.{Expr-F}
use Rattle.cmeaning.specs.Shape.{is_part}
use Rattle.cmeaning.specs.Value.{unary_of, arithmetic_of, division_of, signed_division_of, shift_of, compare_of, signed_compare_of, extend_of, overflow_of, count_of, with_value, with_values, Meaning}
use Rattle.rules.specs.Size.{one_size, two_size, size_step, size_of, AreWords}
use Rattle.rules.specs.Readings.{Reading, IsReading, reading_step, read_as, value_by}
use Rattle.rules.proofs.Nodes.{size_roll, read_roll}
use Rattle.rules.proofs.Words.{some_is}

abbrev pub everywhere : Reading
everywhere = record {
  plain = λ op w a b. Some (quotient_or_rest op w a b);
  signed = λ op w a b. Some (quotient_or_rest op w a b);
}

pub everywhere_reads : IsReading everywhere
everywhere_reads = record { plain = λ op w a b n is. some_is _ _ is; signed = λ op w a b n is. some_is _ _ is }

abbrev pub zeros : ℕ → Option ℕ
zeros v = Some 0

pub zero_words : (ws : ℕ → ℕ) → AreWords ws zeros
zero_words ws v n is = subst (λ z. z < limit (ws v)) (some_is _ _ is) (limit_pos (ws v))

abbrev Total : Meaning → Option ℕ → Type 0
Total m o = (w : ℕ) → o ≡ Some w → (n : ℕ) × (m.value zeros ≡ Some n)

one_total : (right : ℕ → Bool) (to : ℕ → ℕ) (v : ℕ → ℕ → ℕ) (m : Meaning) (o : Option ℕ) → Total m o
    → Total (record { width = to m.width; value = λ x. with_value (m.value x) (λ a. Some (v m.width a)) })
    (one_size right to o)
one_total right to v m None h w is = cc
one_total right to v m (Some u) h w is =
    let a = h u refl in
    (v m.width a.0, ap (λ z. with_value z (λ x. Some (v m.width x))) a.1)

two_total : (right : ℕ → ℕ → Bool) (to : ℕ → ℕ → ℕ) (v : ℕ → ℕ → ℕ → ℕ → ℕ) (m k : Meaning) (o p : Option ℕ)
    → Total m o → Total k p
    → Total (record {
      width = to m.width k.width;
      value = λ x. with_values (m.value x) (k.value x) (λ a b. Some (v m.width k.width a b));
    }) (two_size right to o p)
two_total right to v m k None p g h w is = cc
two_total right to v m k (Some t) None g h w is = cc
two_total right to v m k (Some t) (Some u) g h w is =
    let a = g t refl in
    let b = h u refl in
    let f : ℕ → ℕ → Option ℕ = λ x y. Some (v m.width k.width x y) in (
      v m.width k.width a.0 b.0,
      ap (λ z. with_values z (k.value zeros) f) a.1 ∙ ap (λ z. with_values (Some a.0) z f) b.1,
    )

module _ (ws : ℕ → ℕ) where
  rolled : (l : Expr-F Expr)
      → Total (reading_step everywhere ws (map-Expr Expr Meaning (read_as everywhere ws) l))
      (size_step ws (map-Expr Expr (Option ℕ) (size_of ws) l))
      → Total (read_as everywhere ws (roll-Expr l)) (size_of ws (roll-Expr l))
  rolled l g w is =
      let t = g w (sym (size_roll ws l) ∙ is) in
      (t.0, ap (λ m. m.value zeros) (read_roll everywhere ws l) ∙ t.1)

  module _ {A : Type 0} (f : A → Expr) (h : (a : A) → Total (read_as everywhere ws (f a)) (size_of ws (f a))) where
    abbrev m : A → Meaning
    m a = read_as everywhere ws (f a)

    abbrev s : A → Option ℕ
    s a = size_of ws (f a)

    of_one : (right : ℕ → Bool) (to : ℕ → ℕ) (v : ℕ → ℕ → ℕ) (a : A)
        → Total
        (record { width = to (m a).width; value = λ x. with_value ((m a).value x) (λ n. Some (v (m a).width n)) })
        (one_size right to (s a))
    of_one right to v a = one_total right to v (m a) (s a) (h a)

    of_two : (right : ℕ → ℕ → Bool) (to : ℕ → ℕ → ℕ) (v : ℕ → ℕ → ℕ → ℕ → ℕ) (a b : A)
        → Total (record {
          width = to (m a).width (m b).width;
          value = λ x. with_values ((m a).value x) ((m b).value x) (λ i j. Some (v (m a).width (m b).width i j));
        }) (two_size right to (s a) (s b))
    of_two right to v a b = two_total right to v (m a) (m b) (s a) (s b) (h a) (h b)

    layer_total : (l : Expr-F A)
        → Total (read_as everywhere ws (roll-Expr (map-Expr A Expr f l))) (size_of ws (roll-Expr (map-Expr A Expr f l)))
    layer_total (Expr-F.Const c) = rolled (Expr-F.Const c) (λ w is. (c.value, refl))
    layer_total (Expr-F.Var v) = rolled (Expr-F.Var v) (λ w is. (0, refl))
    layer_total (Expr-F.Unary op a) = rolled (Expr-F.Unary op (f a))
        (of_one (λ v. true) (λ v. v) (λ u x. unary_value (unary_of op) u x u) a)
    layer_total (Expr-F.Arithmetic op a b) = rolled (Expr-F.Arithmetic op (f a) (f b))
        (of_two (λ v w. v == w) (λ v w. v) (λ t u x y. binary_value (arithmetic_of op) t x u y t) a b)
    layer_total (Expr-F.Division op a b) = rolled (Expr-F.Division op (f a) (f b))
        (of_two (λ v w. v == w) (λ v w. v) (λ t u x y. quotient_or_rest (division_of op) t x y) a b)
    layer_total (Expr-F.SignedDivision op a b) = rolled (Expr-F.SignedDivision op (f a) (f b))
        (of_two (λ v w. v == w) (λ v w. v) (λ t u x y. quotient_or_rest (signed_division_of op) t x y) a b)
    layer_total (Expr-F.Shift op a b) = rolled (Expr-F.Shift op (f a) (f b))
        (of_two (λ v w. true) (λ v w. v) (λ t u x y. binary_value (shift_of op) t x u y t) a b)
    layer_total (Expr-F.Compare op a b) = rolled (Expr-F.Compare op (f a) (f b))
        (of_two (λ v w. v == w) (λ v w. 1) (λ t u x y. binary_value (compare_of op) t x u y 1) a b)
    layer_total (Expr-F.SignedCompare op a b) = rolled (Expr-F.SignedCompare op (f a) (f b))
        (of_two (λ v w. v == w) (λ v w. 1) (λ t u x y. binary_value (signed_compare_of op) t x u y 1) a b)
    layer_total (Expr-F.Extend op w a) = rolled (Expr-F.Extend op w (f a))
        (of_one (λ v. nat_lt v w.bytes) (λ v. w.bytes) (λ u x. unary_value (extend_of op) u x w.bytes) a)
    layer_total (Expr-F.Part k w a) = rolled (Expr-F.Part k w (f a))
        (of_one (is_part k w.bytes) (λ v. w.bytes) (λ u x. binary_value B.Subpiece u x 1 k w.bytes) a)
    layer_total (Expr-F.Concat a b) = rolled (Expr-F.Concat (f a) (f b))
        (of_two (λ v w. nat_le (v + w) 16) (λ v w. v + w) (λ t u x y. binary_value B.Piece t x u y (t + u)) a b)
    layer_total (Expr-F.Overflow op a b) = rolled (Expr-F.Overflow op (f a) (f b))
        (of_two (λ v w. v == w) (λ v w. 1) (λ t u x y. binary_value (overflow_of op) t x u y 1) a b)
    layer_total (Expr-F.Count op a) = rolled (Expr-F.Count op (f a))
        (of_one (λ v. true) (λ v. 1) (λ u x. unary_value (count_of op) u x 1) a)

  pub total : (e : Expr) (w : ℕ) → size_of ws e ≡ Some w → (n : ℕ) × (value_by everywhere ws zeros e ≡ Some n)
  total = ind-Expr (λ e. Total (read_as everywhere ws e) (size_of ws e))
      (λ l y is.
      let P : Expr-F Expr → Type 0 = λ z. Total (read_as everywhere ws (roll-Expr z)) (size_of ws (roll-Expr z)) in
      subst P is (layer_total (λ p. p.0) (λ p. p.1) y))
