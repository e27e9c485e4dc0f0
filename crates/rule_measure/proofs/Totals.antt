-- The total of each kind of node: its need, and the totals of its operands.
use Rattle.std.proofs.Common.{◌≡◌, ℕ, ◌+◌, ◌≤◌, refl, sym, ap, ◌∙◌, subst, arith}
use Rattle.bits_core.specs.declared.word.Width.{Width}
use Rattle.bits_core.specs.declared.word.Word.{Word}
use Rattle.cmeaning.specs.declared.tree.UnaryOp.{UnaryOp}
use Rattle.cmeaning.specs.declared.tree.ArithmeticOp.{ArithmeticOp}
use Rattle.cmeaning.specs.declared.tree.DivisionOp.{DivisionOp}
use Rattle.cmeaning.specs.declared.tree.SignedDivisionOp.{SignedDivisionOp}
use Rattle.cmeaning.specs.declared.tree.ShiftOp.{ShiftOp}
use Rattle.cmeaning.specs.declared.tree.CompareOp.{CompareOp}
use Rattle.cmeaning.specs.declared.tree.SignedCompareOp.{SignedCompareOp}
use Rattle.cmeaning.specs.declared.tree.ExtendOp.{ExtendOp}
use Rattle.cmeaning.specs.declared.tree.OverflowOp.{OverflowOp}
use Rattle.cmeaning.specs.declared.tree.CountOp.{CountOp}
use Rattle.cmeaning.specs.declared.tree.Expr.{Expr, fold-Expr, fold-roll-Expr, ind-Expr, roll-Expr, map-Expr}
use Rattle.cmeaning.specs.declared.tree.Expr.TheOpen.{Expr-F}
use Rattle.cmeaning.specs.declared.tree.Expr.TheVariants as E
use Rattle.rule_measure.specs.Measure.{open_right, need}
use Rattle.rule_measure.specs.Total.{sum_in, Weighed, whole, total_step, total}
use Rattle.rule_measure.proofs.Needs.{need_const}

module _ (ws ls : ℕ → ℕ) where
  abbrev weighed : Expr → Weighed
  weighed e = fold-Expr Weighed (total_step ws ls) e

  weighed_roll : (l : Expr-F Expr) → weighed (roll-Expr l) ≡ total_step ws ls (map-Expr Expr Weighed weighed l)
  weighed_roll l = fold-roll-Expr Weighed (total_step ws ls) l

  -- ---- what stands beside a total is the expression

  -- of a layer whose operands are kept
  rolled : (l : Expr-F Expr) → whole (map-Expr Expr Weighed weighed l) ≡ roll-Expr l
      → (weighed (roll-Expr l)).tree ≡ roll-Expr l
  rolled l h = ap (λ (w : Weighed). w.tree) (weighed_roll l) ∙ h

  module _ {A : Type 0} (f : A → Expr) (h : (a : A) → (weighed (f a)).tree ≡ f a) where
    layer_kept : (l : Expr-F A) → (weighed (roll-Expr (map-Expr A Expr f l))).tree ≡ roll-Expr (map-Expr A Expr f l)
    layer_kept (Expr-F.Const c) = rolled (Expr-F.Const c) refl
    layer_kept (Expr-F.Var v) = rolled (Expr-F.Var v) refl
    layer_kept (Expr-F.Unary op x) = rolled (Expr-F.Unary op (f x)) (rw (h x) refl)
    layer_kept (Expr-F.Arithmetic op x y) = rolled (Expr-F.Arithmetic op (f x) (f y)) (rw (h x, h y) refl)
    layer_kept (Expr-F.Division op x y) = rolled (Expr-F.Division op (f x) (f y)) (rw (h x, h y) refl)
    layer_kept (Expr-F.SignedDivision op x y) = rolled (Expr-F.SignedDivision op (f x) (f y)) (rw (h x, h y) refl)
    layer_kept (Expr-F.Shift op x y) = rolled (Expr-F.Shift op (f x) (f y)) (rw (h x, h y) refl)
    layer_kept (Expr-F.Compare op x y) = rolled (Expr-F.Compare op (f x) (f y)) (rw (h x, h y) refl)
    layer_kept (Expr-F.SignedCompare op x y) = rolled (Expr-F.SignedCompare op (f x) (f y)) (rw (h x, h y) refl)
    layer_kept (Expr-F.Extend op w x) = rolled (Expr-F.Extend op w (f x)) (rw (h x) refl)
    layer_kept (Expr-F.Part k w x) = rolled (Expr-F.Part k w (f x)) (rw (h x) refl)
    layer_kept (Expr-F.Concat x y) = rolled (Expr-F.Concat (f x) (f y)) (rw (h x, h y) refl)
    layer_kept (Expr-F.Overflow op x y) = rolled (Expr-F.Overflow op (f x) (f y)) (rw (h x, h y) refl)
    layer_kept (Expr-F.Count op x) = rolled (Expr-F.Count op (f x)) (rw (h x) refl)

  kept : (e : Expr) → (weighed e).tree ≡ e
  kept = ind-Expr (λ e. (weighed e).tree ≡ e)
      (λ l y is.
      let P : Expr-F Expr → Type 0 = λ z. (weighed (roll-Expr z)).tree ≡ roll-Expr z in
      subst P is (layer_kept (λ p. p.0) (λ p. p.1) y))

  -- ---- the total of a node

  pub total_roll : (l : Expr-F Expr)
      → total ws ls (roll-Expr l)
      ≡ need ws ls (roll-Expr l) + sum_in (map-Expr Weighed ℕ (λ w. w.weight) (map-Expr Expr Weighed weighed l))
  unfolding total
  total_roll l =
      let is : (weighed (roll-Expr l)).tree ≡ roll-Expr l = kept (roll-Expr l) in
      let same : whole (map-Expr Expr Weighed weighed l) ≡ roll-Expr l =
      sym (ap (λ (w : Weighed). w.tree) (weighed_roll l)) ∙ is in
      ap (λ (w : Weighed). w.weight) (weighed_roll l)
      ∙ ap (λ e. need ws ls e + sum_in (map-Expr Weighed ℕ (λ w. w.weight) (map-Expr Expr Weighed weighed l))) same

  totalled : (e : Expr) (l : Expr-F Expr) → roll-Expr l ≡ e
      → total ws ls e
      ≡ need ws ls e + sum_in (map-Expr Weighed ℕ (λ w. w.weight) (map-Expr Expr Weighed weighed l))
  totalled e l is =
      subst (λ z. total ws ls z
      ≡ need ws ls z + sum_in (map-Expr Weighed ℕ (λ w. w.weight) (map-Expr Expr Weighed weighed l))) is (total_roll l)

  -- A node needs no more than the total.
  pub need_most : (e : Expr) → need ws ls e ≤ total ws ls e
  need_most = ind-Expr (λ e. need ws ls e ≤ total ws ls e)
      (λ l y is. subst (λ n. need ws ls (roll-Expr l) ≤ n) (sym (total_roll l)) (omega arith))

pub total_const : (ws ls : ℕ → ℕ) (c : Word) → total ws ls (E.Const c) ≡ 0
total_const ws ls c =
    totalled ws ls (E.Const c) (Expr-F.Const c) (E.rolls-Const c)
    ∙ ap (λ n. n + 0) (need_const open_right ws ls c)

pub total_unary : (ws ls : ℕ → ℕ) (op : UnaryOp) (a : Expr)
    → total ws ls (E.Unary op a) ≡ need ws ls (E.Unary op a) + total ws ls a
unfolding total
total_unary ws ls op a = totalled ws ls (E.Unary op a) (Expr-F.Unary op a) (E.rolls-Unary op a)

pub total_arithmetic : (ws ls : ℕ → ℕ) (op : ArithmeticOp) (a b : Expr)
    → total ws ls (E.Arithmetic op a b) ≡ need ws ls (E.Arithmetic op a b) + (total ws ls a + total ws ls b)
unfolding total
total_arithmetic ws ls op a b = totalled ws ls (E.Arithmetic op a b) (Expr-F.Arithmetic op a b) (E.rolls-Arithmetic op a b)

pub total_division : (ws ls : ℕ → ℕ) (op : DivisionOp) (a b : Expr)
    → total ws ls (E.Division op a b) ≡ need ws ls (E.Division op a b) + (total ws ls a + total ws ls b)
unfolding total
total_division ws ls op a b = totalled ws ls (E.Division op a b) (Expr-F.Division op a b) (E.rolls-Division op a b)

pub total_signed_division : (ws ls : ℕ → ℕ) (op : SignedDivisionOp) (a b : Expr)
    → total ws ls (E.SignedDivision op a b) ≡ need ws ls (E.SignedDivision op a b) + (total ws ls a + total ws ls b)
unfolding total
total_signed_division ws ls op a b = totalled ws ls (E.SignedDivision op a b) (Expr-F.SignedDivision op a b) (E.rolls-SignedDivision op a b)

pub total_shift : (ws ls : ℕ → ℕ) (op : ShiftOp) (a b : Expr)
    → total ws ls (E.Shift op a b) ≡ need ws ls (E.Shift op a b) + (total ws ls a + total ws ls b)
unfolding total
total_shift ws ls op a b = totalled ws ls (E.Shift op a b) (Expr-F.Shift op a b) (E.rolls-Shift op a b)

pub total_compare : (ws ls : ℕ → ℕ) (op : CompareOp) (a b : Expr)
    → total ws ls (E.Compare op a b) ≡ need ws ls (E.Compare op a b) + (total ws ls a + total ws ls b)
unfolding total
total_compare ws ls op a b = totalled ws ls (E.Compare op a b) (Expr-F.Compare op a b) (E.rolls-Compare op a b)

pub total_signed_compare : (ws ls : ℕ → ℕ) (op : SignedCompareOp) (a b : Expr)
    → total ws ls (E.SignedCompare op a b) ≡ need ws ls (E.SignedCompare op a b) + (total ws ls a + total ws ls b)
unfolding total
total_signed_compare ws ls op a b = totalled ws ls (E.SignedCompare op a b) (Expr-F.SignedCompare op a b) (E.rolls-SignedCompare op a b)

pub total_extend : (ws ls : ℕ → ℕ) (op : ExtendOp) (w : Width) (a : Expr)
    → total ws ls (E.Extend op w a) ≡ need ws ls (E.Extend op w a) + total ws ls a
unfolding total
total_extend ws ls op w a = totalled ws ls (E.Extend op w a) (Expr-F.Extend op w a) (E.rolls-Extend op w a)

pub total_part : (ws ls : ℕ → ℕ) (k : ℕ) (w : Width) (a : Expr)
    → total ws ls (E.Part k w a) ≡ need ws ls (E.Part k w a) + total ws ls a
unfolding total
total_part ws ls k w a = totalled ws ls (E.Part k w a) (Expr-F.Part k w a) (E.rolls-Part k w a)

pub total_concat : (ws ls : ℕ → ℕ) (a b : Expr)
    → total ws ls (E.Concat a b) ≡ need ws ls (E.Concat a b) + (total ws ls a + total ws ls b)
unfolding total
total_concat ws ls a b = totalled ws ls (E.Concat a b) (Expr-F.Concat a b) (E.rolls-Concat a b)

pub total_overflow : (ws ls : ℕ → ℕ) (op : OverflowOp) (a b : Expr)
    → total ws ls (E.Overflow op a b) ≡ need ws ls (E.Overflow op a b) + (total ws ls a + total ws ls b)
unfolding total
total_overflow ws ls op a b = totalled ws ls (E.Overflow op a b) (Expr-F.Overflow op a b) (E.rolls-Overflow op a b)

pub total_count : (ws ls : ℕ → ℕ) (op : CountOp) (a : Expr)
    → total ws ls (E.Count op a) ≡ need ws ls (E.Count op a) + total ws ls a
unfolding total
total_count ws ls op a = totalled ws ls (E.Count op a) (Expr-F.Count op a) (E.rolls-Count op a)

-- for `simp`
pub ruleset totals = (
  total_const,
  total_unary,
  total_arithmetic,
  total_division,
  total_signed_division,
  total_shift,
  total_compare,
  total_signed_compare,
  total_extend,
  total_part,
  total_concat,
  total_overflow,
  total_count,
)
