-- What F1 keeps: the value of a node over constants is the one that its operation gives, whatever variables hold.
use Rattle.std.proofs.Common.{◌≡◌, ℕ, ◌+◌, ◌==◌, ◌≤◌, Bool, true, false, if◌then◌else◌, Option, Some, None, refl, sym, ◌∙◌, arith}
use Rattle.bits_core.specs.declared.word.Word.{Word}
use Rattle.bits_core.specs.declared.ops.Divide.{Divide}
use Rattle.bits_core.specs.declared.ops.Binary.TheVariants as B
use Rattle.bits_core.specs.Value.{unary_value, binary_value, divide_value, quotient_or_rest}
use Rattle.cmeaning.specs.declared.tree.Expr.{Expr}
use Rattle.cmeaning.specs.declared.tree.Expr.TheVariants as E
use Rattle.cmeaning.specs.Value.{unary_of, arithmetic_of, division_of, signed_division_of, shift_of, compare_of, signed_compare_of, extend_of, overflow_of, count_of, signed_quotient, with_value, with_values}
use Rattle.rules.specs.Size.{depth_of}
use Rattle.rules.specs.Readings.{Reading, IsReading, as_c, as_ops, value_by}
use Rattle.rules.specs.Folds.{IsClosed, Unary, Arithmetic, Division, SignedDivision, Shift, Compare, SignedCompare, Extend, Part, Concat, Overflow, Count, Folding, F1}
use Rattle.rules.proofs.Nodes as N
use Rattle.rules.proofs.Nodes.{wide, depths, depth_of_count}
use Rattle.rules.proofs.Words.{some_is, good}
use Rattle.rules.proofs.Total.{zeros, zero_words}
use Rattle.rules.proofs.Has as H
use Rattle.rules.proofs.Has.{Under, Has}

-- ---- both readings have the quotient where they have a value

unless : (b : Bool) (m n : ℕ) → (if b then None else Some m) ≡ Some n → m ≡ n
unless true m n is = cc
unless false m n is = cc

divided : (op : Divide) (w a b n : ℕ) → divide_value op w a b ≡ Some n → quotient_or_rest op w a b ≡ n
divided op w a b n is = unless (b == 0) (quotient_or_rest op w a b) n is

unless_none : (b : Bool) (o : Option ℕ) (n : ℕ) → (if b then None else o) ≡ Some n → o ≡ Some n
unless_none true o n is = cc
unless_none false o n is = is

fitted : (op : Divide) (w a b n : ℕ) → signed_quotient op w a b ≡ Some n → quotient_or_rest op w a b ≡ n
fitted op w a b n is = divided op w a b n (unless_none _ _ n is)

pub ops_read : IsReading as_ops
ops_read = record { plain = divided; signed = divided }

pub c_reads : IsReading as_c
c_reads = record { plain = divided; signed = fitted }

-- ---- a node over constants

nothing : ℕ → Option ℕ
nothing v = None

module _ (r : Reading) (reads : IsReading r) (ws : ℕ → ℕ) (env : ℕ → Option ℕ) where
  const_wide : (c : Word) → wide r ws (E.Const c) ≡ c.width.bytes
  const_wide c = (good r reads ws zeros (zero_words ws) (E.Const c) c.width.bytes (N.size_of_const ws c)).width

  abbrev at : Expr → Option ℕ
  at e = value_by r ws env e

  one : (c : Word) (v : ℕ → ℕ → ℕ)
      → with_value (at (E.Const c)) (λ x. Some (v (wide r ws (E.Const c)) x)) ≡ Some (v c.width.bytes c.value)
  one c v = rw (N.value_by_const r ws env c, const_wide c) refl

  two : (c d : Word) (v : ℕ → ℕ → ℕ → ℕ → ℕ)
      → with_values (at (E.Const c)) (at (E.Const d))
      (λ x y. Some (v (wide r ws (E.Const c)) x (wide r ws (E.Const d)) y))
      ≡ Some (v c.width.bytes c.value d.width.bytes d.value)
  two c d v = rw (N.value_by_const r ws env c, N.value_by_const r ws env d, const_wide c, const_wide d) refl

  over : (c d : Word) (q : ℕ → ℕ → ℕ → Option ℕ)
      → with_values (at (E.Const c)) (at (E.Const d)) (q (wide r ws (E.Const c))) ≡ q c.width.bytes c.value d.value
  over c d q = rw (N.value_by_const r ws env c, N.value_by_const r ws env d, const_wide c) refl

-- The value of a node over constants is one number, by whatever reading.
pub data Holds (l : Expr) (m : ℕ) : Type 0 where
  Is : ((r : Reading) (reads : IsReading r) (ws : ℕ → ℕ) (env : ℕ → Option ℕ) (n : ℕ)
      → value_by r ws env l ≡ Some n
      → m ≡ n)
      → Holds l m

held : (l : Expr) (m : ℕ)
    → ((r : Reading) (reads : IsReading r) (ws : ℕ → ℕ) (env : ℕ → Option ℕ) → value_by r ws env l ≡ Some m)
    → (m : ℕ) × Holds l m
held l m is = (m, Is (λ r reads ws env n at. some_is _ _ (sym (is r reads ws env) ∙ at)))

pub closed : (l : Expr) → IsClosed l → (m : ℕ) × Holds l m
closed l (Unary op c) = held _ _
    (λ r i ws env. N.value_by_unary r ws env op (E.Const c) ∙ one r i ws env c (λ t x. unary_value (unary_of op) t x t))
closed l (Arithmetic op c d) = held _ _
    (λ r i ws env. N.value_by_arithmetic r ws env op (E.Const c) (E.Const d)
    ∙ two r i ws env c d (λ t x k y. binary_value (arithmetic_of op) t x k y t))
closed l (Division op c d) = (
  quotient_or_rest (division_of op) c.width.bytes c.value d.value,
  Is (λ r i ws env n at. i.plain (division_of op) c.width.bytes c.value d.value n
      (sym (over r i ws env c d (r.plain (division_of op)))
      ∙ sym (N.value_by_division r ws env op (E.Const c) (E.Const d))
      ∙ at)),
)
closed l (SignedDivision op c d) = (
  quotient_or_rest (signed_division_of op) c.width.bytes c.value d.value,
  Is (λ r i ws env n at. i.signed (signed_division_of op) c.width.bytes c.value d.value n
      (sym (over r i ws env c d (r.signed (signed_division_of op)))
      ∙ sym (N.value_by_signed_division r ws env op (E.Const c) (E.Const d)) ∙ at)),
)
closed l (Shift op c d) = held _ _
    (λ r i ws env. N.value_by_shift r ws env op (E.Const c) (E.Const d)
    ∙ two r i ws env c d (λ t x k y. binary_value (shift_of op) t x k y t))
closed l (Compare op c d) = held _ _
    (λ r i ws env. N.value_by_compare r ws env op (E.Const c) (E.Const d)
    ∙ two r i ws env c d (λ t x k y. binary_value (compare_of op) t x k y 1))
closed l (SignedCompare op c d) = held _ _
    (λ r i ws env. N.value_by_signed_compare r ws env op (E.Const c) (E.Const d)
    ∙ two r i ws env c d (λ t x k y. binary_value (signed_compare_of op) t x k y 1))
closed l (Extend op w c) = held _ _
    (λ r i ws env. N.value_by_extend r ws env op w (E.Const c)
    ∙ one r i ws env c (λ t x. unary_value (extend_of op) t x w.bytes))
closed l (Part k w c) = held _ _
    (λ r i ws env. N.value_by_part r ws env k w (E.Const c)
    ∙ one r i ws env c (λ t x. binary_value B.Subpiece t x 1 k w.bytes))
closed l (Concat c d) = held _ _
    (λ r i ws env. N.value_by_concat r ws env (E.Const c) (E.Const d)
    ∙ two r i ws env c d (λ t x k y. binary_value B.Piece t x k y (t + k)))
closed l (Overflow op c d) = held _ _
    (λ r i ws env. N.value_by_overflow r ws env op (E.Const c) (E.Const d)
    ∙ two r i ws env c d (λ t x k y. binary_value (overflow_of op) t x k y 1))
closed l (Count op c) = held _ _
    (λ r i ws env. N.value_by_count r ws env op (E.Const c)
    ∙ one r i ws env c (λ t x. unary_value (count_of op) t x 1))

agree : (l : Expr) (m : ℕ) → Holds l m
    → (r q : Reading) → IsReading r → IsReading q → (ws : ℕ → ℕ) (env other : ℕ → Option ℕ) (j k : ℕ)
    → value_by r ws env l ≡ Some j → value_by q ws other l ≡ Some k → j ≡ k
agree l m (Is f) r q i i' ws env other j k a b = sym (f r i ws env j a) ∙ f q i' ws other k b

pub fold_has : (ws : ℕ → ℕ) (u : Under ws) (l r : Expr) → Folding ws l r → (w n : ℕ) → Has ws u l w n → Has ws u r w n
fold_has ws u l r (F1 l' e c v) w n h =
    let k = closed l c in
    let is : e.value ≡ n =
    agree l k.0 k.1 as_ops u.reading ops_read u.reads ws (λ v. None) u.env e.value n v.value h.value in
    H.const_made ws u e w n (some_is _ _ (sym v.width ∙ h.size)) is

-- a node is at least as deep as a constant
pub some_depth : (l : Expr) → IsClosed l → 1 ≤ depth_of l
some_depth l (Unary op c) = simp depths (omega arith)
some_depth l (Arithmetic op c d) = simp depths (omega arith)
some_depth l (Division op c d) = simp depths (omega arith)
some_depth l (SignedDivision op c d) = simp depths (omega arith)
some_depth l (Shift op c d) = simp depths (omega arith)
some_depth l (Compare op c d) = simp depths (omega arith)
some_depth l (SignedCompare op c d) = simp depths (omega arith)
some_depth l (Extend op w c) = simp depths (omega arith)
some_depth l (Part k w c) = simp depths (omega arith)
some_depth l (Concat c d) = simp depths (omega arith)
some_depth l (Overflow op c d) = simp depths (omega arith)
some_depth l (Count op c) = simp (depths, depth_of_count) (omega arith)

pub fold_depth : (ws : ℕ → ℕ) (l r : Expr) → Folding ws l r → depth_of r ≤ depth_of l
fold_depth ws l r (F1 l' e c v) = let some : 1 ≤ depth_of l = some_depth l c in simp depths (omega arith)
