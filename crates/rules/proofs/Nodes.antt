-- The width, the depth and the value of each kind of expression.
use Rattle.std.proofs.Common.{◌≡◌, ℕ, ◌+◌, ◌<◌, subst, arith, nat_lt, nat_le, max, true, if◌then◌else◌, Option, Some, None, sym, ap, ◌∙◌}
use Rattle.bits_core.specs.declared.word.Width.{Width}
use Rattle.bits_core.specs.declared.word.Word.{Word}
use Rattle.bits_core.specs.declared.ops.Binary.TheVariants as B
use Rattle.bits_core.specs.Value.{unary_value, binary_value}
use Rattle.cmeaning.specs.declared.tree.UnaryOp.{UnaryOp}
use Rattle.cmeaning.specs.declared.tree.ArithmeticOp.{ArithmeticOp}
use Rattle.cmeaning.specs.declared.tree.DivisionOp.{DivisionOp}
use Rattle.cmeaning.specs.declared.tree.SignedDivisionOp.{SignedDivisionOp}
use Rattle.cmeaning.specs.declared.tree.ShiftOp.{ShiftOp}
use Rattle.cmeaning.specs.declared.tree.CompareOp.{CompareOp}
use Rattle.cmeaning.specs.declared.tree.SignedCompareOp.{SignedCompareOp}
use Rattle.cmeaning.specs.declared.tree.ExtendOp.{ExtendOp}
use Rattle.cmeaning.specs.declared.tree.OverflowOp.{OverflowOp}
use Rattle.cmeaning.specs.declared.tree.CountOp.{CountOp}
use Rattle.cmeaning.specs.declared.tree.Expr.{Expr, fold-roll-Expr, ind-Expr, roll-Expr, map-Expr}
use Rattle.cmeaning.specs.declared.tree.Expr.TheOpen.{Expr-F}
use Rattle.cmeaning.specs.declared.tree.Expr.TheVariants as E
use Rattle.cmeaning.specs.Shape.{is_part}
use Rattle.cmeaning.specs.Value.{unary_of, arithmetic_of, division_of, signed_division_of, shift_of, compare_of, signed_compare_of, extend_of, overflow_of, count_of, with_value, with_values, Meaning}
use Rattle.rules.specs.Size.{one_size, two_size, alike, tested, size_step, size_of, depth_step, depth_of}
use Rattle.rules.specs.Readings.{Reading, reading_step, read_as, value_by}

-- the width as a value's reader has it, whether operands agree or not
abbrev pub wide : Reading → (ℕ → ℕ) → Expr → ℕ
wide r ws e = (read_as r ws e).width

pub size_roll : (ws : ℕ → ℕ) (l : Expr-F Expr)
    → size_of ws (roll-Expr l) ≡ size_step ws (map-Expr Expr (Option ℕ) (size_of ws) l)
unfolding size_of
size_roll ws l = fold-roll-Expr (Option ℕ) (size_step ws) l

pub depth_roll : (l : Expr-F Expr) → depth_of (roll-Expr l) ≡ depth_step (map-Expr Expr ℕ depth_of l)
unfolding depth_of
depth_roll l = fold-roll-Expr ℕ depth_step l

pub read_roll : (r : Reading) (ws : ℕ → ℕ) (l : Expr-F Expr)
    → read_as r ws (roll-Expr l) ≡ reading_step r ws (map-Expr Expr Meaning (read_as r ws) l)
unfolding read_as
read_roll r ws l = fold-roll-Expr Meaning (reading_step r ws) l

sized : (ws : ℕ → ℕ) (e : Expr) (l : Expr-F Expr) → roll-Expr l ≡ e
    → size_of ws e ≡ size_step ws (map-Expr Expr (Option ℕ) (size_of ws) l)
sized ws e l is = ap (size_of ws) (sym is) ∙ size_roll ws l

deep : (e : Expr) (l : Expr-F Expr) → roll-Expr l ≡ e → depth_of e ≡ depth_step (map-Expr Expr ℕ depth_of l)
deep e l is = ap depth_of (sym is) ∙ depth_roll l

valued : (r : Reading) (ws : ℕ → ℕ) (env : ℕ → Option ℕ) (e : Expr) (l : Expr-F Expr) → roll-Expr l ≡ e
    → value_by r ws env e ≡ (reading_step r ws (map-Expr Expr Meaning (read_as r ws) l)).value env
valued r ws env e l is = ap (λ x. value_by r ws env x) (sym is) ∙ ap (λ m. m.value env) (read_roll r ws l)

pub size_of_const : (ws : ℕ → ℕ) (c : Word)
    → size_of ws (E.Const c) ≡ Some c.width.bytes
size_of_const ws c = sized ws (E.Const c) (Expr-F.Const c) (E.rolls-Const c)

pub depth_of_const : (c : Word) → depth_of (E.Const c) ≡ 1
depth_of_const c = deep (E.Const c) (Expr-F.Const c) (E.rolls-Const c)

pub value_by_const : (r : Reading) (ws : ℕ → ℕ) (env : ℕ → Option ℕ) (c : Word)
    → value_by r ws env (E.Const c)
    ≡ Some c.value
value_by_const r ws env c = valued r ws env (E.Const c) (Expr-F.Const c) (E.rolls-Const c)

pub size_of_var : (ws : ℕ → ℕ) (v : ℕ)
    → size_of ws (E.Var v) ≡ (if nat_lt 0 (ws v) then Some (ws v) else None)
size_of_var ws v = sized ws (E.Var v) (Expr-F.Var v) (E.rolls-Var v)

pub depth_of_var : (v : ℕ) → depth_of (E.Var v) ≡ 1
depth_of_var v = deep (E.Var v) (Expr-F.Var v) (E.rolls-Var v)

pub value_by_var : (r : Reading) (ws : ℕ → ℕ) (env : ℕ → Option ℕ) (v : ℕ)
    → value_by r ws env (E.Var v)
    ≡ env v
value_by_var r ws env v = valued r ws env (E.Var v) (Expr-F.Var v) (E.rolls-Var v)

pub size_of_unary : (ws : ℕ → ℕ) (op : UnaryOp) (a : Expr)
    → size_of ws (E.Unary op a) ≡ one_size (λ v. true) (λ v. v) (size_of ws a)
size_of_unary ws op a = sized ws (E.Unary op a) (Expr-F.Unary op a) (E.rolls-Unary op a)

pub depth_of_unary : (op : UnaryOp) (a : Expr) → depth_of (E.Unary op a) ≡ depth_of a + 1
depth_of_unary op a = deep (E.Unary op a) (Expr-F.Unary op a) (E.rolls-Unary op a)

pub value_by_unary : (r : Reading) (ws : ℕ → ℕ) (env : ℕ → Option ℕ) (op : UnaryOp) (a : Expr)
    → value_by r ws env (E.Unary op a)
    ≡ with_value (value_by r ws env a) (λ x. Some (unary_value (unary_of op) (wide r ws a) x (wide r ws a)))
value_by_unary r ws env op a = valued r ws env (E.Unary op a) (Expr-F.Unary op a) (E.rolls-Unary op a)

pub size_of_arithmetic : (ws : ℕ → ℕ) (op : ArithmeticOp) (a b : Expr)
    → size_of ws (E.Arithmetic op a b) ≡ alike (size_of ws a) (size_of ws b)
size_of_arithmetic ws op a b = sized ws (E.Arithmetic op a b) (Expr-F.Arithmetic op a b) (E.rolls-Arithmetic op a b)

pub depth_of_arithmetic : (op : ArithmeticOp) (a b : Expr)
    → depth_of (E.Arithmetic op a b) ≡ max (depth_of a) (depth_of b) + 1
depth_of_arithmetic op a b = deep (E.Arithmetic op a b) (Expr-F.Arithmetic op a b) (E.rolls-Arithmetic op a b)

pub value_by_arithmetic : (r : Reading) (ws : ℕ → ℕ) (env : ℕ → Option ℕ) (op : ArithmeticOp) (a b : Expr)
    → value_by r ws env (E.Arithmetic op a b)
    ≡ with_values (value_by r ws env a) (value_by r ws env b)
    (λ x y. Some (binary_value (arithmetic_of op) (wide r ws a) x (wide r ws b) y (wide r ws a)))
value_by_arithmetic r ws env op a b =
    valued r ws env (E.Arithmetic op a b) (Expr-F.Arithmetic op a b) (E.rolls-Arithmetic op a b)

pub size_of_division : (ws : ℕ → ℕ) (op : DivisionOp) (a b : Expr)
    → size_of ws (E.Division op a b) ≡ alike (size_of ws a) (size_of ws b)
size_of_division ws op a b = sized ws (E.Division op a b) (Expr-F.Division op a b) (E.rolls-Division op a b)

pub depth_of_division : (op : DivisionOp) (a b : Expr)
    → depth_of (E.Division op a b) ≡ max (depth_of a) (depth_of b) + 1
depth_of_division op a b = deep (E.Division op a b) (Expr-F.Division op a b) (E.rolls-Division op a b)

pub value_by_division : (r : Reading) (ws : ℕ → ℕ) (env : ℕ → Option ℕ) (op : DivisionOp) (a b : Expr)
    → value_by r ws env (E.Division op a b)
    ≡ with_values (value_by r ws env a) (value_by r ws env b) (r.plain (division_of op) (wide r ws a))
value_by_division r ws env op a b =
    valued r ws env (E.Division op a b) (Expr-F.Division op a b) (E.rolls-Division op a b)

pub size_of_signed_division : (ws : ℕ → ℕ) (op : SignedDivisionOp) (a b : Expr)
    → size_of ws (E.SignedDivision op a b) ≡ alike (size_of ws a) (size_of ws b)
size_of_signed_division ws op a b =
    sized ws (E.SignedDivision op a b) (Expr-F.SignedDivision op a b) (E.rolls-SignedDivision op a b)

pub depth_of_signed_division : (op : SignedDivisionOp) (a b : Expr)
    → depth_of (E.SignedDivision op a b) ≡ max (depth_of a) (depth_of b) + 1
depth_of_signed_division op a b =
    deep (E.SignedDivision op a b) (Expr-F.SignedDivision op a b) (E.rolls-SignedDivision op a b)

pub value_by_signed_division : (r : Reading) (ws : ℕ → ℕ) (env : ℕ → Option ℕ) (op : SignedDivisionOp) (a b : Expr)
    → value_by r ws env (E.SignedDivision op a b)
    ≡ with_values (value_by r ws env a) (value_by r ws env b) (r.signed (signed_division_of op) (wide r ws a))
value_by_signed_division r ws env op a b =
    valued r ws env (E.SignedDivision op a b) (Expr-F.SignedDivision op a b) (E.rolls-SignedDivision op a b)

pub size_of_shift : (ws : ℕ → ℕ) (op : ShiftOp) (a b : Expr)
    → size_of ws (E.Shift op a b) ≡ two_size (λ v w. true) (λ v w. v) (size_of ws a) (size_of ws b)
size_of_shift ws op a b = sized ws (E.Shift op a b) (Expr-F.Shift op a b) (E.rolls-Shift op a b)

pub depth_of_shift : (op : ShiftOp) (a b : Expr) → depth_of (E.Shift op a b) ≡ max (depth_of a) (depth_of b) + 1
depth_of_shift op a b = deep (E.Shift op a b) (Expr-F.Shift op a b) (E.rolls-Shift op a b)

pub value_by_shift : (r : Reading) (ws : ℕ → ℕ) (env : ℕ → Option ℕ) (op : ShiftOp) (a b : Expr)
    → value_by r ws env (E.Shift op a b)
    ≡ with_values (value_by r ws env a) (value_by r ws env b)
    (λ x y. Some (binary_value (shift_of op) (wide r ws a) x (wide r ws b) y (wide r ws a)))
value_by_shift r ws env op a b = valued r ws env (E.Shift op a b) (Expr-F.Shift op a b) (E.rolls-Shift op a b)

pub size_of_compare : (ws : ℕ → ℕ) (op : CompareOp) (a b : Expr)
    → size_of ws (E.Compare op a b) ≡ tested (size_of ws a) (size_of ws b)
size_of_compare ws op a b = sized ws (E.Compare op a b) (Expr-F.Compare op a b) (E.rolls-Compare op a b)

pub depth_of_compare : (op : CompareOp) (a b : Expr) → depth_of (E.Compare op a b) ≡ max (depth_of a) (depth_of b) + 1
depth_of_compare op a b = deep (E.Compare op a b) (Expr-F.Compare op a b) (E.rolls-Compare op a b)

pub value_by_compare : (r : Reading) (ws : ℕ → ℕ) (env : ℕ → Option ℕ) (op : CompareOp) (a b : Expr)
    → value_by r ws env (E.Compare op a b)
    ≡ with_values (value_by r ws env a) (value_by r ws env b)
    (λ x y. Some (binary_value (compare_of op) (wide r ws a) x (wide r ws b) y 1))
value_by_compare r ws env op a b = valued r ws env (E.Compare op a b) (Expr-F.Compare op a b) (E.rolls-Compare op a b)

pub size_of_signed_compare : (ws : ℕ → ℕ) (op : SignedCompareOp) (a b : Expr)
    → size_of ws (E.SignedCompare op a b) ≡ tested (size_of ws a) (size_of ws b)
size_of_signed_compare ws op a b =
    sized ws (E.SignedCompare op a b) (Expr-F.SignedCompare op a b) (E.rolls-SignedCompare op a b)

pub depth_of_signed_compare : (op : SignedCompareOp) (a b : Expr)
    → depth_of (E.SignedCompare op a b) ≡ max (depth_of a) (depth_of b) + 1
depth_of_signed_compare op a b =
    deep (E.SignedCompare op a b) (Expr-F.SignedCompare op a b) (E.rolls-SignedCompare op a b)

pub value_by_signed_compare : (r : Reading) (ws : ℕ → ℕ) (env : ℕ → Option ℕ) (op : SignedCompareOp) (a b : Expr)
    → value_by r ws env (E.SignedCompare op a b)
    ≡ with_values (value_by r ws env a) (value_by r ws env b)
    (λ x y. Some (binary_value (signed_compare_of op) (wide r ws a) x (wide r ws b) y 1))
value_by_signed_compare r ws env op a b =
    valued r ws env (E.SignedCompare op a b) (Expr-F.SignedCompare op a b) (E.rolls-SignedCompare op a b)

pub size_of_extend : (ws : ℕ → ℕ) (op : ExtendOp) (w : Width) (a : Expr)
    → size_of ws (E.Extend op w a) ≡ one_size (λ v. nat_lt v w.bytes) (λ v. w.bytes) (size_of ws a)
size_of_extend ws op w a = sized ws (E.Extend op w a) (Expr-F.Extend op w a) (E.rolls-Extend op w a)

pub depth_of_extend : (op : ExtendOp) (w : Width) (a : Expr) → depth_of (E.Extend op w a) ≡ depth_of a + 1
depth_of_extend op w a = deep (E.Extend op w a) (Expr-F.Extend op w a) (E.rolls-Extend op w a)

pub value_by_extend : (r : Reading) (ws : ℕ → ℕ) (env : ℕ → Option ℕ) (op : ExtendOp) (w : Width) (a : Expr)
    → value_by r ws env (E.Extend op w a)
    ≡ with_value (value_by r ws env a) (λ x. Some (unary_value (extend_of op) (wide r ws a) x w.bytes))
value_by_extend r ws env op w a = valued r ws env (E.Extend op w a) (Expr-F.Extend op w a) (E.rolls-Extend op w a)

pub size_of_part : (ws : ℕ → ℕ) (k : ℕ) (w : Width) (a : Expr)
    → size_of ws (E.Part k w a) ≡ one_size (is_part k w.bytes) (λ v. w.bytes) (size_of ws a)
size_of_part ws k w a = sized ws (E.Part k w a) (Expr-F.Part k w a) (E.rolls-Part k w a)

pub depth_of_part : (k : ℕ) (w : Width) (a : Expr) → depth_of (E.Part k w a) ≡ depth_of a + 1
depth_of_part k w a = deep (E.Part k w a) (Expr-F.Part k w a) (E.rolls-Part k w a)

pub value_by_part : (r : Reading) (ws : ℕ → ℕ) (env : ℕ → Option ℕ) (k : ℕ) (w : Width) (a : Expr)
    → value_by r ws env (E.Part k w a)
    ≡ with_value (value_by r ws env a) (λ x. Some (binary_value B.Subpiece (wide r ws a) x 1 k w.bytes))
value_by_part r ws env k w a = valued r ws env (E.Part k w a) (Expr-F.Part k w a) (E.rolls-Part k w a)

pub size_of_concat : (ws : ℕ → ℕ) (a b : Expr)
    → size_of ws (E.Concat a b) ≡ two_size (λ v w. nat_le (v + w) 16) (λ v w. v + w) (size_of ws a) (size_of ws b)
size_of_concat ws a b = sized ws (E.Concat a b) (Expr-F.Concat a b) (E.rolls-Concat a b)

pub depth_of_concat : (a b : Expr) → depth_of (E.Concat a b) ≡ max (depth_of a) (depth_of b) + 1
depth_of_concat a b = deep (E.Concat a b) (Expr-F.Concat a b) (E.rolls-Concat a b)

pub value_by_concat : (r : Reading) (ws : ℕ → ℕ) (env : ℕ → Option ℕ) (a b : Expr)
    → value_by r ws env (E.Concat a b)
    ≡ with_values (value_by r ws env a) (value_by r ws env b)
    (λ x y. Some (binary_value B.Piece (wide r ws a) x (wide r ws b) y (wide r ws a + wide r ws b)))
value_by_concat r ws env a b = valued r ws env (E.Concat a b) (Expr-F.Concat a b) (E.rolls-Concat a b)

pub size_of_overflow : (ws : ℕ → ℕ) (op : OverflowOp) (a b : Expr)
    → size_of ws (E.Overflow op a b) ≡ tested (size_of ws a) (size_of ws b)
size_of_overflow ws op a b = sized ws (E.Overflow op a b) (Expr-F.Overflow op a b) (E.rolls-Overflow op a b)

pub depth_of_overflow : (op : OverflowOp) (a b : Expr)
    → depth_of (E.Overflow op a b) ≡ max (depth_of a) (depth_of b) + 1
depth_of_overflow op a b = deep (E.Overflow op a b) (Expr-F.Overflow op a b) (E.rolls-Overflow op a b)

pub value_by_overflow : (r : Reading) (ws : ℕ → ℕ) (env : ℕ → Option ℕ) (op : OverflowOp) (a b : Expr)
    → value_by r ws env (E.Overflow op a b)
    ≡ with_values (value_by r ws env a) (value_by r ws env b)
    (λ x y. Some (binary_value (overflow_of op) (wide r ws a) x (wide r ws b) y 1))
value_by_overflow r ws env op a b =
    valued r ws env (E.Overflow op a b) (Expr-F.Overflow op a b) (E.rolls-Overflow op a b)

pub size_of_count : (ws : ℕ → ℕ) (op : CountOp) (a : Expr)
    → size_of ws (E.Count op a) ≡ one_size (λ v. true) (λ v. 1) (size_of ws a)
size_of_count ws op a = sized ws (E.Count op a) (Expr-F.Count op a) (E.rolls-Count op a)

pub depth_of_count : (op : CountOp) (a : Expr) → depth_of (E.Count op a) ≡ depth_of a + 1
depth_of_count op a = deep (E.Count op a) (Expr-F.Count op a) (E.rolls-Count op a)

pub value_by_count : (r : Reading) (ws : ℕ → ℕ) (env : ℕ → Option ℕ) (op : CountOp) (a : Expr)
    → value_by r ws env (E.Count op a)
    ≡ with_value (value_by r ws env a) (λ x. Some (unary_value (count_of op) (wide r ws a) x 1))
value_by_count r ws env op a = valued r ws env (E.Count op a) (Expr-F.Count op a) (E.rolls-Count op a)

-- what depths are made of, for `simp`
pub ruleset depths = (
  depth_of_const,
  depth_of_unary,
  depth_of_arithmetic,
  depth_of_division,
  depth_of_signed_division,
  depth_of_shift,
  depth_of_compare,
  depth_of_signed_compare,
  depth_of_extend,
  depth_of_part,
  depth_of_concat,
  depth_of_overflow,
)

step_some : (l : Expr-F ℕ) → 0 < depth_step l
step_some (Expr-F.Const c) = omega arith
step_some (Expr-F.Var v) = omega arith
step_some (Expr-F.Unary op a) = omega arith
step_some (Expr-F.Arithmetic op a b) = omega arith
step_some (Expr-F.Division op a b) = omega arith
step_some (Expr-F.SignedDivision op a b) = omega arith
step_some (Expr-F.Shift op a b) = omega arith
step_some (Expr-F.Compare op a b) = omega arith
step_some (Expr-F.SignedCompare op a b) = omega arith
step_some (Expr-F.Extend op w a) = omega arith
step_some (Expr-F.Part k w a) = omega arith
step_some (Expr-F.Concat a b) = omega arith
step_some (Expr-F.Overflow op a b) = omega arith
step_some (Expr-F.Count op a) = omega arith

pub depth_some : (e : Expr) → 0 < depth_of e
depth_some = ind-Expr (λ e. 0 < depth_of e)
    (λ l y is. subst (λ n. 0 < n) (sym (depth_roll l)) (step_some (map-Expr Expr ℕ depth_of l)))
