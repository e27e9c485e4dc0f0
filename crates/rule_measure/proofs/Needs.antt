-- The height and the need of each kind of node.
use Rattle.std.proofs.Common.{◌≡◌, ℕ, ◌+◌, ◌*◌, ◌<◌, ◌≤◌, max, Option, Some, None, refl, sym, ap, ◌∙◌, subst, arith}
use Rattle.bits_core.specs.declared.word.Width.{Width}
use Rattle.bits_core.specs.declared.word.Word.{Word}
use Rattle.cmeaning.specs.declared.tree.UnaryOp.{UnaryOp}
use Rattle.cmeaning.specs.declared.tree.ArithmeticOp.{ArithmeticOp}
use Rattle.cmeaning.specs.declared.tree.DivisionOp.{DivisionOp}
use Rattle.cmeaning.specs.declared.tree.SignedDivisionOp.{SignedDivisionOp}
use Rattle.cmeaning.specs.declared.tree.ShiftOp.{ShiftOp}
use Rattle.cmeaning.specs.declared.tree.CompareOp.{CompareOp}
use Rattle.cmeaning.specs.declared.tree.SignedCompareOp.{SignedCompareOp}
use Rattle.cmeaning.specs.declared.tree.ExtendOp.{ExtendOp}
use Rattle.cmeaning.specs.declared.tree.OverflowOp.{OverflowOp}
use Rattle.cmeaning.specs.declared.tree.CountOp.{CountOp}
use Rattle.cmeaning.specs.declared.tree.ArithmeticOp.TheVariants as A
use Rattle.cmeaning.specs.declared.tree.ShiftOp.TheVariants as H
use Rattle.cmeaning.specs.declared.tree.CompareOp.TheVariants as C
use Rattle.cmeaning.specs.declared.tree.Expr.{Expr, fold-roll-Expr, ind-Expr, out-Expr, out-roll-Expr, roll-Expr, map-Expr}
use Rattle.cmeaning.specs.declared.tree.Expr.TheOpen.{Expr-F}
use Rattle.cmeaning.specs.declared.tree.Expr.TheVariants as E
use Rattle.rules.specs.Size.{size_of}
use Rattle.rules.specs.Letters.{IsNoConstant}
use Rattle.rule_measure.specs.Measure.{height_step, height, constant_in, constant_of, open_right, past_bits, one_need, two_need, sum_need, shift_need, compare_need, need_in, need_by}

height_roll : (ls : ℕ → ℕ) (l : Expr-F Expr)
    → height ls (roll-Expr l) ≡ height_step ls (map-Expr Expr ℕ (height ls) l)
unfolding height
height_roll ls l = fold-roll-Expr ℕ (height_step ls) l

high : (ls : ℕ → ℕ) (e : Expr) (l : Expr-F Expr) → roll-Expr l ≡ e
    → height ls e ≡ height_step ls (map-Expr Expr ℕ (height ls) l)
high ls e l is = ap (height ls) (sym is) ∙ height_roll ls l

pub constant_roll : (l : Expr-F Expr) → constant_of (roll-Expr l) ≡ constant_in l
unfolding constant_of
constant_roll l = ap constant_in (out-roll-Expr l)

pub need_roll : (more : Option Word → ℕ) (ws ls : ℕ → ℕ) (l : Expr-F Expr)
    → need_by more ws ls (roll-Expr l) ≡ need_in more ws ls l
unfolding need_by
need_roll more ws ls l = ap (need_in more ws ls) (out-roll-Expr l)

needed : (more : Option Word → ℕ) (ws ls : ℕ → ℕ) (e : Expr) (l : Expr-F Expr) → roll-Expr l ≡ e
    → need_by more ws ls e ≡ need_in more ws ls l
needed more ws ls e l is = ap (need_by more ws ls) (sym is) ∙ need_roll more ws ls l

pub constant_const : (c : Word) → constant_of (E.Const c) ≡ Some c
constant_const c = ap constant_of (sym (E.rolls-Const c)) ∙ constant_roll (Expr-F.Const c)

pub height_const : (ls : ℕ → ℕ) (c : Word) → height ls (E.Const c) ≡ 0
height_const ls c = high ls (E.Const c) (Expr-F.Const c) (E.rolls-Const c)

pub need_const : (more : Option Word → ℕ) (ws ls : ℕ → ℕ) (c : Word)
    → need_by more ws ls (E.Const c) ≡ 0
need_const more ws ls c = needed more ws ls (E.Const c) (Expr-F.Const c) (E.rolls-Const c)

pub height_var : (ls : ℕ → ℕ) (v : ℕ) → height ls (E.Var v) ≡ ls v
height_var ls v = high ls (E.Var v) (Expr-F.Var v) (E.rolls-Var v)

pub need_var : (more : Option Word → ℕ) (ws ls : ℕ → ℕ) (v : ℕ)
    → need_by more ws ls (E.Var v) ≡ 0
need_var more ws ls v = needed more ws ls (E.Var v) (Expr-F.Var v) (E.rolls-Var v)

pub height_unary : (ls : ℕ → ℕ) (op : UnaryOp) (a : Expr) → height ls (E.Unary op a) ≡ height ls a + 1
height_unary ls op a = high ls (E.Unary op a) (Expr-F.Unary op a) (E.rolls-Unary op a)

pub need_unary : (more : Option Word → ℕ) (ws ls : ℕ → ℕ) (op : UnaryOp) (a : Expr)
    → need_by more ws ls (E.Unary op a) ≡ one_need (height ls a)
need_unary more ws ls op a = needed more ws ls (E.Unary op a) (Expr-F.Unary op a) (E.rolls-Unary op a)

pub height_arithmetic : (ls : ℕ → ℕ) (op : ArithmeticOp) (a b : Expr)
    → height ls (E.Arithmetic op a b) ≡ max (height ls a) (height ls b) + 1
height_arithmetic ls op a b = high ls (E.Arithmetic op a b) (Expr-F.Arithmetic op a b) (E.rolls-Arithmetic op a b)

pub need_arithmetic : (more : Option Word → ℕ) (ws ls : ℕ → ℕ) (op : ArithmeticOp) (a b : Expr)
    → need_by more ws ls (E.Arithmetic op a b) ≡ sum_need op (height ls a) (height ls b) (more (constant_of b))
need_arithmetic more ws ls op a b =
    needed more ws ls (E.Arithmetic op a b) (Expr-F.Arithmetic op a b) (E.rolls-Arithmetic op a b)

pub height_division : (ls : ℕ → ℕ) (op : DivisionOp) (a b : Expr)
    → height ls (E.Division op a b) ≡ max (height ls a) (height ls b) + 1
height_division ls op a b = high ls (E.Division op a b) (Expr-F.Division op a b) (E.rolls-Division op a b)

pub need_division : (more : Option Word → ℕ) (ws ls : ℕ → ℕ) (op : DivisionOp) (a b : Expr)
    → need_by more ws ls (E.Division op a b) ≡ two_need (height ls a) (height ls b)
need_division more ws ls op a b =
    needed more ws ls (E.Division op a b) (Expr-F.Division op a b) (E.rolls-Division op a b)

pub height_signed_division : (ls : ℕ → ℕ) (op : SignedDivisionOp) (a b : Expr)
    → height ls (E.SignedDivision op a b) ≡ max (height ls a) (height ls b) + 1
height_signed_division ls op a b =
    high ls (E.SignedDivision op a b) (Expr-F.SignedDivision op a b) (E.rolls-SignedDivision op a b)

pub need_signed_division : (more : Option Word → ℕ) (ws ls : ℕ → ℕ) (op : SignedDivisionOp) (a b : Expr)
    → need_by more ws ls (E.SignedDivision op a b) ≡ two_need (height ls a) (height ls b)
need_signed_division more ws ls op a b =
    needed more ws ls (E.SignedDivision op a b) (Expr-F.SignedDivision op a b) (E.rolls-SignedDivision op a b)

pub height_shift : (ls : ℕ → ℕ) (op : ShiftOp) (a b : Expr)
    → height ls (E.Shift op a b) ≡ max (height ls a) (height ls b) + 1
height_shift ls op a b = high ls (E.Shift op a b) (Expr-F.Shift op a b) (E.rolls-Shift op a b)

pub need_shift : (more : Option Word → ℕ) (ws ls : ℕ → ℕ) (op : ShiftOp) (a b : Expr)
    → need_by more ws ls (E.Shift op a b)
    ≡ shift_need op (height ls a) (height ls b) (past_bits (size_of ws a) (constant_of b))
need_shift more ws ls op a b = needed more ws ls (E.Shift op a b) (Expr-F.Shift op a b) (E.rolls-Shift op a b)

pub height_compare : (ls : ℕ → ℕ) (op : CompareOp) (a b : Expr)
    → height ls (E.Compare op a b) ≡ max (height ls a) (height ls b) + 1
height_compare ls op a b = high ls (E.Compare op a b) (Expr-F.Compare op a b) (E.rolls-Compare op a b)

pub need_compare : (more : Option Word → ℕ) (ws ls : ℕ → ℕ) (op : CompareOp) (a b : Expr)
    → need_by more ws ls (E.Compare op a b) ≡ compare_need op (height ls a) (height ls b) (more (constant_of b))
need_compare more ws ls op a b = needed more ws ls (E.Compare op a b) (Expr-F.Compare op a b) (E.rolls-Compare op a b)

pub height_signed_compare : (ls : ℕ → ℕ) (op : SignedCompareOp) (a b : Expr)
    → height ls (E.SignedCompare op a b) ≡ max (height ls a) (height ls b) + 1
height_signed_compare ls op a b =
    high ls (E.SignedCompare op a b) (Expr-F.SignedCompare op a b) (E.rolls-SignedCompare op a b)

pub need_signed_compare : (more : Option Word → ℕ) (ws ls : ℕ → ℕ) (op : SignedCompareOp) (a b : Expr)
    → need_by more ws ls (E.SignedCompare op a b) ≡ two_need (height ls a) (height ls b)
need_signed_compare more ws ls op a b =
    needed more ws ls (E.SignedCompare op a b) (Expr-F.SignedCompare op a b) (E.rolls-SignedCompare op a b)

pub height_extend : (ls : ℕ → ℕ) (op : ExtendOp) (w : Width) (a : Expr) → height ls (E.Extend op w a) ≡ height ls a + 1
height_extend ls op w a = high ls (E.Extend op w a) (Expr-F.Extend op w a) (E.rolls-Extend op w a)

pub need_extend : (more : Option Word → ℕ) (ws ls : ℕ → ℕ) (op : ExtendOp) (w : Width) (a : Expr)
    → need_by more ws ls (E.Extend op w a) ≡ one_need (height ls a)
need_extend more ws ls op w a = needed more ws ls (E.Extend op w a) (Expr-F.Extend op w a) (E.rolls-Extend op w a)

pub height_part : (ls : ℕ → ℕ) (k : ℕ) (w : Width) (a : Expr) → height ls (E.Part k w a) ≡ height ls a + 1
height_part ls k w a = high ls (E.Part k w a) (Expr-F.Part k w a) (E.rolls-Part k w a)

pub need_part : (more : Option Word → ℕ) (ws ls : ℕ → ℕ) (k : ℕ) (w : Width) (a : Expr)
    → need_by more ws ls (E.Part k w a) ≡ one_need (height ls a)
need_part more ws ls k w a = needed more ws ls (E.Part k w a) (Expr-F.Part k w a) (E.rolls-Part k w a)

pub height_concat : (ls : ℕ → ℕ) (a b : Expr) → height ls (E.Concat a b) ≡ max (height ls a) (height ls b) + 1
height_concat ls a b = high ls (E.Concat a b) (Expr-F.Concat a b) (E.rolls-Concat a b)

pub need_concat : (more : Option Word → ℕ) (ws ls : ℕ → ℕ) (a b : Expr)
    → need_by more ws ls (E.Concat a b) ≡ two_need (height ls a) (height ls b) + 1
need_concat more ws ls a b = needed more ws ls (E.Concat a b) (Expr-F.Concat a b) (E.rolls-Concat a b)

pub height_overflow : (ls : ℕ → ℕ) (op : OverflowOp) (a b : Expr)
    → height ls (E.Overflow op a b) ≡ max (height ls a) (height ls b) + 1
height_overflow ls op a b = high ls (E.Overflow op a b) (Expr-F.Overflow op a b) (E.rolls-Overflow op a b)

pub need_overflow : (more : Option Word → ℕ) (ws ls : ℕ → ℕ) (op : OverflowOp) (a b : Expr)
    → need_by more ws ls (E.Overflow op a b) ≡ two_need (height ls a) (height ls b)
need_overflow more ws ls op a b =
    needed more ws ls (E.Overflow op a b) (Expr-F.Overflow op a b) (E.rolls-Overflow op a b)

pub height_count : (ls : ℕ → ℕ) (op : CountOp) (a : Expr) → height ls (E.Count op a) ≡ height ls a + 1
height_count ls op a = high ls (E.Count op a) (Expr-F.Count op a) (E.rolls-Count op a)

pub need_count : (more : Option Word → ℕ) (ws ls : ℕ → ℕ) (op : CountOp) (a : Expr)
    → need_by more ws ls (E.Count op a) ≡ one_need (height ls a)
need_count more ws ls op a = needed more ws ls (E.Count op a) (Expr-F.Count op a) (E.rolls-Count op a)

-- for `simp`
pub ruleset needs = (
  height_const,
  height_unary,
  height_arithmetic,
  height_division,
  height_signed_division,
  height_shift,
  height_compare,
  height_signed_compare,
  height_extend,
  height_part,
  height_concat,
  height_overflow,
  height_count,
  need_const,
  need_unary,
  need_arithmetic,
  need_division,
  need_signed_division,
  need_shift,
  need_compare,
  need_signed_compare,
  need_extend,
  need_part,
  need_concat,
  need_overflow,
  need_count,
  constant_const,
)

-- ---- what isn't a constant

none_in : (l : Expr-F Expr) → IsNoConstant (roll-Expr l) → constant_in l ≡ None
none_in (Expr-F.Const c) never = absurd (never c (E.rolls-Const c))
none_in (Expr-F.Var v) never = refl
none_in (Expr-F.Unary op a) never = refl
none_in (Expr-F.Arithmetic op a b) never = refl
none_in (Expr-F.Division op a b) never = refl
none_in (Expr-F.SignedDivision op a b) never = refl
none_in (Expr-F.Shift op a b) never = refl
none_in (Expr-F.Compare op a b) never = refl
none_in (Expr-F.SignedCompare op a b) never = refl
none_in (Expr-F.Extend op w a) never = refl
none_in (Expr-F.Part k w a) never = refl
none_in (Expr-F.Concat a b) never = refl
none_in (Expr-F.Overflow op a b) never = refl
none_in (Expr-F.Count op a) never = refl

pub no_constant : (e : Expr) → IsNoConstant e → constant_of e ≡ None
no_constant = ind-Expr (λ e. IsNoConstant e → constant_of e ≡ None)
    (λ l y is. λ never. constant_roll l ∙ none_in l never)

-- ---- bounds by cases of the operation

pub open_most : (o : Option Word) → open_right o ≤ 1
open_most None = omega arith
open_most (Some c) = omega arith

pub sum_some : (op : ArithmeticOp) (a b m : ℕ) → 0 < sum_need op a b m
sum_some A.Add a b m = omega arith
sum_some A.Sub a b m = omega arith
sum_some A.Mul a b m = omega arith
sum_some A.And a b m = omega arith
sum_some A.Or a b m = omega arith
sum_some A.Xor a b m = omega arith

pub shift_some : (op : ShiftOp) (a b m : ℕ) → 0 < shift_need op a b m
shift_some H.Shl a b m = omega arith
shift_some H.Shr a b m = omega arith
shift_some H.Sar a b m = omega arith

pub compare_some : (op : CompareOp) (a b m : ℕ) → 0 < compare_need op a b m
compare_some C.Eq a b m = omega arith
compare_some C.Ne a b m = omega arith
compare_some C.Lt a b m = omega arith
compare_some C.Le a b m = omega arith

pub sum_more : (op : ArithmeticOp) (a b m : ℕ) → sum_need op a b 0 ≤ sum_need op a b m
sum_more A.Add a b m = omega arith
sum_more A.Sub a b m = omega arith
sum_more A.Mul a b m = omega arith
sum_more A.And a b m = omega arith
sum_more A.Or a b m = omega arith
sum_more A.Xor a b m = omega arith

pub compare_more : (op : CompareOp) (a b m : ℕ) → compare_need op a b 0 ≤ compare_need op a b m
compare_more C.Eq a b m = omega arith
compare_more C.Ne a b m = omega arith
compare_more C.Lt a b m = omega arith
compare_more C.Le a b m = omega arith
