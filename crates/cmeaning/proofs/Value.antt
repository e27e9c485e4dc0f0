-- The width and the value of each kind of expression.
use Rattle.std.proofs.Common.{◌≡◌, ℕ, ◌+◌, Option, Some, sym, ap, ◌∙◌}
use Rattle.bits_core.specs.declared.word.Width.{Width}
use Rattle.bits_core.specs.declared.word.Word.{Word}
use Rattle.bits_core.specs.declared.ops.Binary.TheVariants as B
use Rattle.bits_core.specs.Value.{unary_value, binary_value, divide_value}
use Rattle.cmeaning.specs.declared.tree.UnaryOp.{UnaryOp}
use Rattle.cmeaning.specs.declared.tree.ArithmeticOp.{ArithmeticOp}
use Rattle.cmeaning.specs.declared.tree.DivisionOp.{DivisionOp}
use Rattle.cmeaning.specs.declared.tree.SignedDivisionOp.{SignedDivisionOp}
use Rattle.cmeaning.specs.declared.tree.ShiftOp.{ShiftOp}
use Rattle.cmeaning.specs.declared.tree.CompareOp.{CompareOp}
use Rattle.cmeaning.specs.declared.tree.SignedCompareOp.{SignedCompareOp}
use Rattle.cmeaning.specs.declared.tree.ExtendOp.{ExtendOp}
use Rattle.cmeaning.specs.declared.tree.OverflowOp.{OverflowOp}
use Rattle.cmeaning.specs.declared.tree.CountOp.{CountOp}
use Rattle.cmeaning.specs.declared.tree.Expr.{Expr, fold-roll-Expr, roll-Expr, map-Expr}
use Rattle.cmeaning.specs.declared.tree.Expr.TheOpen.{Expr-F}
use Rattle.cmeaning.specs.declared.tree.Expr.TheVariants as E
use Rattle.cmeaning.specs.Value.{unary_of, arithmetic_of, division_of, signed_division_of, shift_of, compare_of, signed_compare_of, extend_of, overflow_of, count_of, with_value, with_values, signed_quotient, Meaning, meaning_step, meaning_of, width_of, value_of}

-- the meaning of a layer
pub meaning_roll : (ws : ℕ → ℕ) (l : Expr-F Expr)
    → meaning_of ws (roll-Expr l) ≡ meaning_step ws (map-Expr Expr Meaning (meaning_of ws) l)
unfolding meaning_of
meaning_roll ws l = fold-roll-Expr Meaning (meaning_step ws) l

-- of an expression that is a layer
of_layer : (ws : ℕ → ℕ) (e : Expr) (l : Expr-F Expr)
    → roll-Expr l ≡ e
    → meaning_of ws e ≡ meaning_step ws (map-Expr Expr Meaning (meaning_of ws) l)
of_layer ws e l is = ap (meaning_of ws) (sym is) ∙ meaning_roll ws l

pub width_of_const : (ws : ℕ → ℕ) (c : Word) → width_of ws (E.Const c) ≡ c.width.bytes
width_of_const ws c = ap (λ m. m.width) (of_layer ws (E.Const c) (Expr-F.Const c) (E.rolls-Const c))

pub value_of_const : (ws : ℕ → ℕ) (env : ℕ → Option ℕ) (c : Word) → value_of ws env (E.Const c) ≡ Some c.value
value_of_const ws env c = ap (λ m. m.value env) (of_layer ws (E.Const c) (Expr-F.Const c) (E.rolls-Const c))

pub width_of_var : (ws : ℕ → ℕ) (v : ℕ) → width_of ws (E.Var v) ≡ ws v
width_of_var ws v = ap (λ m. m.width) (of_layer ws (E.Var v) (Expr-F.Var v) (E.rolls-Var v))

pub value_of_var : (ws : ℕ → ℕ) (env : ℕ → Option ℕ) (v : ℕ) → value_of ws env (E.Var v) ≡ env v
value_of_var ws env v = ap (λ m. m.value env) (of_layer ws (E.Var v) (Expr-F.Var v) (E.rolls-Var v))

pub width_of_unary : (ws : ℕ → ℕ) (op : UnaryOp) (a : Expr) → width_of ws (E.Unary op a) ≡ width_of ws a
width_of_unary ws op a = ap (λ m. m.width) (of_layer ws (E.Unary op a) (Expr-F.Unary op a) (E.rolls-Unary op a))

pub value_of_unary : (ws : ℕ → ℕ) (env : ℕ → Option ℕ) (op : UnaryOp) (a : Expr)
    → value_of ws env (E.Unary op a)
    ≡ with_value (value_of ws env a) (λ x. Some (unary_value (unary_of op) (width_of ws a) x (width_of ws a)))
value_of_unary ws env op a = ap (λ m. m.value env) (of_layer ws (E.Unary op a) (Expr-F.Unary op a) (E.rolls-Unary op a))

pub width_of_arithmetic : (ws : ℕ → ℕ) (op : ArithmeticOp) (a b : Expr)
    → width_of ws (E.Arithmetic op a b) ≡ width_of ws a
width_of_arithmetic ws op a b =
    ap (λ m. m.width) (of_layer ws (E.Arithmetic op a b) (Expr-F.Arithmetic op a b) (E.rolls-Arithmetic op a b))

pub value_of_arithmetic : (ws : ℕ → ℕ) (env : ℕ → Option ℕ) (op : ArithmeticOp) (a b : Expr)
    → value_of ws env (E.Arithmetic op a b)
    ≡ with_values (value_of ws env a) (value_of ws env b)
    (λ x y. Some (binary_value (arithmetic_of op) (width_of ws a) x (width_of ws b) y (width_of ws a)))
value_of_arithmetic ws env op a b =
    ap (λ m. m.value env) (of_layer ws (E.Arithmetic op a b) (Expr-F.Arithmetic op a b) (E.rolls-Arithmetic op a b))

pub width_of_division : (ws : ℕ → ℕ) (op : DivisionOp) (a b : Expr) → width_of ws (E.Division op a b) ≡ width_of ws a
width_of_division ws op a b = ap (λ m. m.width)
    (of_layer ws (E.Division op a b) (Expr-F.Division op a b) (E.rolls-Division op a b))

pub value_of_division : (ws : ℕ → ℕ) (env : ℕ → Option ℕ) (op : DivisionOp) (a b : Expr)
    → value_of ws env (E.Division op a b)
    ≡ with_values (value_of ws env a) (value_of ws env b) (divide_value (division_of op) (width_of ws a))
value_of_division ws env op a b =
    ap (λ m. m.value env) (of_layer ws (E.Division op a b) (Expr-F.Division op a b) (E.rolls-Division op a b))

pub width_of_signed_division : (ws : ℕ → ℕ) (op : SignedDivisionOp) (a b : Expr)
    → width_of ws (E.SignedDivision op a b) ≡ width_of ws a
width_of_signed_division ws op a b =
    ap (λ m. m.width) (of_layer ws (E.SignedDivision op a b) (Expr-F.SignedDivision op a b)
    (E.rolls-SignedDivision op a b))

pub value_of_signed_division : (ws : ℕ → ℕ) (env : ℕ → Option ℕ) (op : SignedDivisionOp) (a b : Expr)
    → value_of ws env (E.SignedDivision op a b)
    ≡ with_values (value_of ws env a) (value_of ws env b) (signed_quotient (signed_division_of op) (width_of ws a))
value_of_signed_division ws env op a b =
    ap (λ m. m.value env) (of_layer ws (E.SignedDivision op a b) (Expr-F.SignedDivision op a b)
    (E.rolls-SignedDivision op a b))

pub width_of_shift : (ws : ℕ → ℕ) (op : ShiftOp) (a b : Expr) → width_of ws (E.Shift op a b) ≡ width_of ws a
width_of_shift ws op a b = ap (λ m. m.width) (of_layer ws (E.Shift op a b) (Expr-F.Shift op a b) (E.rolls-Shift op a b))

pub value_of_shift : (ws : ℕ → ℕ) (env : ℕ → Option ℕ) (op : ShiftOp) (a b : Expr)
    → value_of ws env (E.Shift op a b)
    ≡ with_values (value_of ws env a) (value_of ws env b)
    (λ x y. Some (binary_value (shift_of op) (width_of ws a) x (width_of ws b) y (width_of ws a)))
value_of_shift ws env op a b = ap (λ m. m.value env)
    (of_layer ws (E.Shift op a b) (Expr-F.Shift op a b) (E.rolls-Shift op a b))

pub width_of_compare : (ws : ℕ → ℕ) (op : CompareOp) (a b : Expr) → width_of ws (E.Compare op a b) ≡ 1
width_of_compare ws op a b = ap (λ m. m.width)
    (of_layer ws (E.Compare op a b) (Expr-F.Compare op a b) (E.rolls-Compare op a b))

pub value_of_compare : (ws : ℕ → ℕ) (env : ℕ → Option ℕ) (op : CompareOp) (a b : Expr)
    → value_of ws env (E.Compare op a b)
    ≡ with_values (value_of ws env a) (value_of ws env b)
    (λ x y. Some (binary_value (compare_of op) (width_of ws a) x (width_of ws b) y 1))
value_of_compare ws env op a b =
    ap (λ m. m.value env) (of_layer ws (E.Compare op a b) (Expr-F.Compare op a b) (E.rolls-Compare op a b))

pub width_of_signed_compare : (ws : ℕ → ℕ) (op : SignedCompareOp) (a b : Expr)
    → width_of ws (E.SignedCompare op a b) ≡ 1
width_of_signed_compare ws op a b =
    ap (λ m. m.width) (of_layer ws (E.SignedCompare op a b) (Expr-F.SignedCompare op a b)
    (E.rolls-SignedCompare op a b))

pub value_of_signed_compare : (ws : ℕ → ℕ) (env : ℕ → Option ℕ) (op : SignedCompareOp) (a b : Expr)
    → value_of ws env (E.SignedCompare op a b)
    ≡ with_values (value_of ws env a) (value_of ws env b)
    (λ x y. Some (binary_value (signed_compare_of op) (width_of ws a) x (width_of ws b) y 1))
value_of_signed_compare ws env op a b =
    ap (λ m. m.value env) (of_layer ws (E.SignedCompare op a b) (Expr-F.SignedCompare op a b)
    (E.rolls-SignedCompare op a b))

pub width_of_extend : (ws : ℕ → ℕ) (op : ExtendOp) (w : Width) (a : Expr) → width_of ws (E.Extend op w a) ≡ w.bytes
width_of_extend ws op w a = ap (λ m. m.width)
    (of_layer ws (E.Extend op w a) (Expr-F.Extend op w a) (E.rolls-Extend op w a))

pub value_of_extend : (ws : ℕ → ℕ) (env : ℕ → Option ℕ) (op : ExtendOp) (w : Width) (a : Expr)
    → value_of ws env (E.Extend op w a)
    ≡ with_value (value_of ws env a) (λ x. Some (unary_value (extend_of op) (width_of ws a) x w.bytes))
value_of_extend ws env op w a =
    ap (λ m. m.value env) (of_layer ws (E.Extend op w a) (Expr-F.Extend op w a) (E.rolls-Extend op w a))

pub width_of_part : (ws : ℕ → ℕ) (k : ℕ) (w : Width) (a : Expr) → width_of ws (E.Part k w a) ≡ w.bytes
width_of_part ws k w a = ap (λ m. m.width) (of_layer ws (E.Part k w a) (Expr-F.Part k w a) (E.rolls-Part k w a))

pub value_of_part : (ws : ℕ → ℕ) (env : ℕ → Option ℕ) (k : ℕ) (w : Width) (a : Expr)
    → value_of ws env (E.Part k w a)
    ≡ with_value (value_of ws env a) (λ x. Some (binary_value B.Subpiece (width_of ws a) x 1 k w.bytes))
value_of_part ws env k w a = ap (λ m. m.value env) (of_layer ws (E.Part k w a) (Expr-F.Part k w a) (E.rolls-Part k w a))

pub width_of_concat : (ws : ℕ → ℕ) (a b : Expr) → width_of ws (E.Concat a b) ≡ width_of ws a + width_of ws b
width_of_concat ws a b = ap (λ m. m.width) (of_layer ws (E.Concat a b) (Expr-F.Concat a b) (E.rolls-Concat a b))

pub value_of_concat : (ws : ℕ → ℕ) (env : ℕ → Option ℕ) (a b : Expr)
    → value_of ws env (E.Concat a b)
    ≡ with_values (value_of ws env a) (value_of ws env b)
    (λ x y. Some (binary_value B.Piece (width_of ws a) x (width_of ws b) y (width_of ws a + width_of ws b)))
value_of_concat ws env a b = ap (λ m. m.value env) (of_layer ws (E.Concat a b) (Expr-F.Concat a b) (E.rolls-Concat a b))

pub width_of_overflow : (ws : ℕ → ℕ) (op : OverflowOp) (a b : Expr) → width_of ws (E.Overflow op a b) ≡ 1
width_of_overflow ws op a b = ap (λ m. m.width)
    (of_layer ws (E.Overflow op a b) (Expr-F.Overflow op a b) (E.rolls-Overflow op a b))

pub value_of_overflow : (ws : ℕ → ℕ) (env : ℕ → Option ℕ) (op : OverflowOp) (a b : Expr)
    → value_of ws env (E.Overflow op a b)
    ≡ with_values (value_of ws env a) (value_of ws env b)
    (λ x y. Some (binary_value (overflow_of op) (width_of ws a) x (width_of ws b) y 1))
value_of_overflow ws env op a b =
    ap (λ m. m.value env) (of_layer ws (E.Overflow op a b) (Expr-F.Overflow op a b) (E.rolls-Overflow op a b))

pub width_of_count : (ws : ℕ → ℕ) (op : CountOp) (a : Expr) → width_of ws (E.Count op a) ≡ 1
width_of_count ws op a = ap (λ m. m.width) (of_layer ws (E.Count op a) (Expr-F.Count op a) (E.rolls-Count op a))

pub value_of_count : (ws : ℕ → ℕ) (env : ℕ → Option ℕ) (op : CountOp) (a : Expr)
    → value_of ws env (E.Count op a)
    ≡ with_value (value_of ws env a) (λ x. Some (unary_value (count_of op) (width_of ws a) x 1))
value_of_count ws env op a = ap (λ m. m.value env) (of_layer ws (E.Count op a) (Expr-F.Count op a) (E.rolls-Count op a))
