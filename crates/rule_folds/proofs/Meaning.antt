-- The width and the value of a node over constants.
use Rattle.std.proofs.Common.{◌≡◌, ℕ, ◌+◌, ◌==◌, nat_lt, nat_le, Bool, true, false, if◌then◌else◌, Option, Some, None, refl, sym, ap, ◌∙◌}
use Rattle.std.proofs.lemmas.Bool.{eq-eqb, leb-true, ltb-true}
use Rattle.bits_core.specs.declared.word.Word.{Word}
use Rattle.bits_core.specs.Value.{binary_value, quotient_or_rest}
use Rattle.cmeaning.specs.declared.tree.Expr.{Expr}
use Rattle.cmeaning.specs.declared.tree.Expr.TheVariants as E
use Rattle.cmeaning.specs.Shape.{is_part}
use Rattle.cmeaning.specs.Value.{arithmetic_of, division_of, signed_division_of}
use Rattle.rules.specs.Size.{one_size, two_size, size_of}
use Rattle.rules.specs.Letters.{IsWide}
use Rattle.rules.specs.Readings.{as_ops, value_by}
use Rattle.rules.proofs.Nodes as N
use Rattle.rules.proofs.Nodes.{wide}
use Rattle.rules.proofs.Words.{chosen, eq_of, good}
use Rattle.rules.proofs.Total.{zeros, zero_words}
use Rattle.rules.proofs.Folds.{ops_read}
use Rattle.rule_views.specs.declared.nodes.Single.{Single}
use Rattle.rule_views.specs.declared.nodes.Single.TheVariants as S
use Rattle.rule_views.specs.declared.nodes.Pair.{Pair}
use Rattle.rule_views.specs.declared.nodes.Pair.TheVariants as P
use Rattle.rule_views.specs.Nodes.{single_node, pair_node}
use Rattle.rule_views.specs.Sees.{IsSized}
use Rattle.rule_folds.specs.Values.{SingleAgrees, single_width, single_number, Agree, Divides, pair_width, pair_number}

-- a test that isn't true
other : (b : Bool) → (b ≡ true → ⊥) → b ≡ false
other true n = absurd (n refl)
other false n = refl

module _ (ws : ℕ → ℕ) (c : Word) where
  abbrev v : ℕ
  v = c.width.bytes

  abbrev none : ℕ → Option ℕ
  none n = None

  wide_is : wide as_ops ws (E.Const c) ≡ c.width.bytes
  wide_is = (good as_ops ops_read ws zeros (zero_words ws) (E.Const c) c.width.bytes (N.size_of_const ws c)).width

  -- ---- one constant

  one_sized : (right : ℕ → Bool) (to : ℕ → ℕ) (l : Expr) → size_of ws l ≡ one_size right to (size_of ws (E.Const c))
      → IsSized ws l → (right v ≡ true) × IsWide ws l (to v)
  one_sized right to l is sized =
      let at : one_size right to (size_of ws (E.Const c)) ≡ one_size right to (Some v) =
      ap (one_size right to) (N.size_of_const ws c) in
      let h = chosen (right v) (to v) sized.0 (sym at ∙ sym is ∙ sized.1) in
      (h.0, sized.1 ∙ ap Some (sym h.1))

  pub single_sized : (s : Single) → IsSized ws (single_node s (E.Const c))
      → SingleAgrees s v × IsWide ws (single_node s (E.Const c)) (single_width s v)
  single_sized (S.Unary op) h =
      (tt, (one_sized (λ n. true) (λ n. n) _ (N.size_of_unary ws op (E.Const c)) h).1)
  single_sized (S.Extend op w) h =
      let t = one_sized (λ n. nat_lt n w.bytes) (λ n. w.bytes) _ (N.size_of_extend ws op w (E.Const c)) h in
      (ltb-true v w.bytes t.0, t.1)
  single_sized (S.Part k w) h =
      (tt, (one_sized (is_part k w.bytes) (λ n. w.bytes) _ (N.size_of_part ws k w (E.Const c)) h).1)
  single_sized (S.Count op) h =
      (tt, (one_sized (λ n. true) (λ n. 1) _ (N.size_of_count ws op (E.Const c)) h).1)

  pub single_meaning : (s : Single) → value_by as_ops ws none (single_node s (E.Const c)) ≡ Some (single_number s v c.value)
  single_meaning (S.Unary op) =
      N.value_by_unary as_ops ws none op (E.Const c) ∙ rw (N.value_by_const as_ops ws none c, wide_is) refl
  single_meaning (S.Extend op w) =
      N.value_by_extend as_ops ws none op w (E.Const c) ∙ rw (N.value_by_const as_ops ws none c, wide_is) refl
  single_meaning (S.Part k w) =
      N.value_by_part as_ops ws none k w (E.Const c) ∙ rw (N.value_by_const as_ops ws none c) refl
  single_meaning (S.Count op) =
      N.value_by_count as_ops ws none op (E.Const c) ∙ rw (N.value_by_const as_ops ws none c, wide_is) refl

module _ (ws : ℕ → ℕ) (c d : Word) where
  abbrev left : ℕ
  left = c.width.bytes

  abbrev right : ℕ
  right = d.width.bytes

  abbrev env : ℕ → Option ℕ
  env n = None

  -- ---- two constants

  two_sized : (fit : ℕ → ℕ → Bool) (to : ℕ → ℕ → ℕ) (l : Expr)
      → size_of ws l ≡ two_size fit to (size_of ws (E.Const c)) (size_of ws (E.Const d))
      → IsSized ws l → (fit left right ≡ true) × IsWide ws l (to left right)
  two_sized fit to l is sized =
      let at : two_size fit to (size_of ws (E.Const c)) (size_of ws (E.Const d)) ≡ two_size fit to (Some left) (Some right) =
      rw (N.size_of_const ws c, N.size_of_const ws d) refl in
      let h = chosen (fit left right) (to left right) sized.0 (sym at ∙ sym is ∙ sized.1) in
      (h.0, sized.1 ∙ ap Some (sym h.1))

  same_sized : (to : ℕ → ℕ → ℕ) (l : Expr)
      → size_of ws l ≡ two_size (λ n m. n == m) to (size_of ws (E.Const c)) (size_of ws (E.Const d))
      → IsSized ws l → (left ≡ right) × IsWide ws l (to left right)
  same_sized to l is sized =
      let t = two_sized (λ n m. n == m) to l is sized in
      (eq_of left right t.0, t.1)

  pub pair_sized : (p : Pair) → IsSized ws (pair_node p (E.Const c) (E.Const d))
      → Agree p left right × IsWide ws (pair_node p (E.Const c) (E.Const d)) (pair_width p left right)
  pair_sized (P.Arithmetic op) h = same_sized (λ n m. n) _ (N.size_of_arithmetic ws op (E.Const c) (E.Const d)) h
  pair_sized (P.Division op) h = same_sized (λ n m. n) _ (N.size_of_division ws op (E.Const c) (E.Const d)) h
  pair_sized (P.SignedDivision op) h =
      same_sized (λ n m. n) _ (N.size_of_signed_division ws op (E.Const c) (E.Const d)) h
  pair_sized (P.Shift op) h =
      (tt, (two_sized (λ n m. true) (λ n m. n) _ (N.size_of_shift ws op (E.Const c) (E.Const d)) h).1)
  pair_sized (P.Compare op) h = same_sized (λ n m. 1) _ (N.size_of_compare ws op (E.Const c) (E.Const d)) h
  pair_sized (P.SignedCompare op) h =
      same_sized (λ n m. 1) _ (N.size_of_signed_compare ws op (E.Const c) (E.Const d)) h
  pair_sized P.Concat h =
      let t = two_sized (λ n m. nat_le (n + m) 16) (λ n m. n + m) _ (N.size_of_concat ws (E.Const c) (E.Const d)) h in
      (leb-true (left + right) 16 t.0, t.1)
  pair_sized (P.Overflow op) h = same_sized (λ n m. 1) _ (N.size_of_overflow ws op (E.Const c) (E.Const d)) h

  not_zero : (d.value ≡ 0 → ⊥) → (d.value == 0) ≡ false
  not_zero n = other (d.value == 0) (λ t. n (eq_of d.value 0 t))

  abbrev value : Pair → Option ℕ
  value p = value_by as_ops ws env (pair_node p (E.Const c) (E.Const d))

  abbrev number : Pair → ℕ
  number p = pair_number p left c.value right d.value

  pub pair_meaning : (p : Pair) → Agree p left right → (Divides p → d.value ≡ 0 → ⊥) → value p ≡ Some (number p)
  pair_meaning (P.Arithmetic op) h n =
      N.value_by_arithmetic as_ops ws env op (E.Const c) (E.Const d)
      ∙ rw (N.value_by_const as_ops ws env c, N.value_by_const as_ops ws env d, wide_is ws c, wide_is ws d) refl
      ∙ ap (λ u. Some (binary_value (arithmetic_of op) left c.value u d.value left)) (sym h)
  pair_meaning (P.Division op) h n =
      N.value_by_division as_ops ws env op (E.Const c) (E.Const d)
      ∙ rw (N.value_by_const as_ops ws env c, N.value_by_const as_ops ws env d, wide_is ws c) refl
      ∙ ap (λ b. if b then None else Some (quotient_or_rest (division_of op) left c.value d.value)) (not_zero (n tt))
  pair_meaning (P.SignedDivision op) h n =
      N.value_by_signed_division as_ops ws env op (E.Const c) (E.Const d)
      ∙ rw (N.value_by_const as_ops ws env c, N.value_by_const as_ops ws env d, wide_is ws c) refl
      ∙ ap (λ b. if b then None else Some (quotient_or_rest (signed_division_of op) left c.value d.value))
      (not_zero (n tt))
  pair_meaning (P.Shift op) h n =
      N.value_by_shift as_ops ws env op (E.Const c) (E.Const d)
      ∙ rw (N.value_by_const as_ops ws env c, N.value_by_const as_ops ws env d, wide_is ws c, wide_is ws d) refl
  pair_meaning (P.Compare op) h n =
      N.value_by_compare as_ops ws env op (E.Const c) (E.Const d)
      ∙ rw (N.value_by_const as_ops ws env c, N.value_by_const as_ops ws env d, wide_is ws c, wide_is ws d) refl
  pair_meaning (P.SignedCompare op) h n =
      N.value_by_signed_compare as_ops ws env op (E.Const c) (E.Const d)
      ∙ rw (N.value_by_const as_ops ws env c, N.value_by_const as_ops ws env d, wide_is ws c, wide_is ws d) refl
  pair_meaning P.Concat h n =
      N.value_by_concat as_ops ws env (E.Const c) (E.Const d)
      ∙ rw (N.value_by_const as_ops ws env c, N.value_by_const as_ops ws env d, wide_is ws d) refl
  pair_meaning (P.Overflow op) h n =
      N.value_by_overflow as_ops ws env op (E.Const c) (E.Const d)
      ∙ rw (N.value_by_const as_ops ws env c, N.value_by_const as_ops ws env d, wide_is ws c, wide_is ws d) refl

  -- a division by 0 has no value
  pub no_meaning : (p : Pair) → Divides p → d.value ≡ 0 → value p ≡ None
  no_meaning (P.Division op) h z =
      N.value_by_division as_ops ws env op (E.Const c) (E.Const d)
      ∙ rw (N.value_by_const as_ops ws env c, N.value_by_const as_ops ws env d, wide_is ws c) refl
      ∙ ap (λ b. if b then None else Some (quotient_or_rest (division_of op) left c.value d.value)) (eq-eqb d.value 0 z)
  no_meaning (P.SignedDivision op) h z =
      N.value_by_signed_division as_ops ws env op (E.Const c) (E.Const d)
      ∙ rw (N.value_by_const as_ops ws env c, N.value_by_const as_ops ws env d, wide_is ws c) refl
      ∙ ap (λ b. if b then None else Some (quotient_or_rest (signed_division_of op) left c.value d.value))
      (eq-eqb d.value 0 z)
  no_meaning (P.Arithmetic op) h z = absurd h
  no_meaning (P.Shift op) h z = absurd h
  no_meaning (P.Compare op) h z = absurd h
  no_meaning (P.SignedCompare op) h z = absurd h
  no_meaning P.Concat h z = absurd h
  no_meaning (P.Overflow op) h z = absurd h
