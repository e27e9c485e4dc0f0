-- The rules of an expression in a valid tree: each node's operands agree in width as its operation asks, and it is at most
-- 64 deep. This project's own.
use Rattle.std.specs.Prelude.{ℕ, ◌+◌, ◌-◌, ◌^◌, ◌==◌, ◌&&◌, nat_lt, nat_le, max, not, Bool, true, false, if◌then◌else◌, Option, Some, None}
use Rattle.bits_core.specs.declared.word.Word.{Word}
use Rattle.bits_core.specs.Value.{limit}
use Rattle.cmeaning.specs.declared.shape.Shape.{Shape}
use Rattle.cmeaning.specs.declared.tree.Expr.{Expr, fold-Expr}
use Rattle.cmeaning.specs.declared.tree.Expr.TheOpen.{Expr-F}

-- a constant or a variable
abbrev pub leaf : ℕ → Option Word → Option Shape
leaf w constant = Some (record { width = w; depth = 1; constant = constant; comparison = false })

-- A node over operands of a depth, if it is right. The depth of a node is 1 more than the greatest of its operands.
abbrev pub above : Bool → ℕ → ℕ → Bool → Option Shape
above right w depth comparison = if right
    && nat_lt depth 64 then Some (record { width = w; depth = depth + 1; constant = None; comparison = comparison })
    else None

-- of one operand: whether it is right by the operand's width, and its own width
abbrev pub one_shape : (ℕ → Bool) → (ℕ → ℕ) → Option Shape → Option Shape
one_shape right w None = None
one_shape right w (Some a) = above (right a.width) (w a.width) a.depth false

-- of two operands
abbrev pub two_shape : (Shape → Shape → Bool) → (ℕ → ℕ → ℕ) → Bool → Option Shape → Option Shape → Option Shape
two_shape right w comparison None b = None
two_shape right w comparison (Some a) None = None
two_shape right w comparison (Some a) (Some b) = above (right a b) (w a.width b.width) (max a.depth b.depth) comparison

-- a variable's number has 32 bits, and there is a variable of that number, whose width is w
abbrev pub variable_shape : ℕ → ℕ → Option Shape
variable_shape v w = if nat_lt v (2 ^ 32) && nat_lt 0 w then leaf w None else None

abbrev pub same_width : Shape → Shape → Bool
same_width a b = a.width == b.width

-- by a constant other than 0
abbrev pub by_constant : Option Word → Bool
by_constant None = false
by_constant (Some c) = not (c.value == 0)

-- by a constant neither 0 nor all ones
abbrev pub by_signed : Option Word → Bool
by_signed None = false
by_signed (Some c) = not (c.value == 0) && not (c.value == limit c.width.bytes - 1)

abbrev pub may_divide : Shape → Shape → Bool
may_divide a b = same_width a b && by_constant b.constant

abbrev pub may_divide_signed : Shape → Shape → Bool
may_divide_signed a b = same_width a b && by_signed b.constant

-- two parts make a word of at most 16 bytes
abbrev pub may_join : Shape → Shape → Bool
may_join a b = nat_le (a.width + b.width) 16

-- the w bytes after the dropped ones stand in the operand of v bytes, and are fewer than it has
abbrev pub is_part : ℕ → ℕ → ℕ → Bool
is_part dropped w v = nat_le (dropped + w) v && nat_lt w v

abbrev pub left_width : ℕ → ℕ → ℕ
left_width v w = v

-- by the widths of the variables, 0 where there is none
abbrev pub shape_step : (ℕ → ℕ) → Expr-F (Option Shape) → Option Shape
shape_step ws (Expr-F.Const c) = leaf c.width.bytes (Some c)
shape_step ws (Expr-F.Var v) = variable_shape v (ws v)
shape_step ws (Expr-F.Unary op a) = one_shape (λ v. true) (λ v. v) a
shape_step ws (Expr-F.Arithmetic op a b) = two_shape same_width left_width false a b
shape_step ws (Expr-F.Division op a b) = two_shape may_divide left_width false a b
shape_step ws (Expr-F.SignedDivision op a b) = two_shape may_divide_signed left_width false a b
shape_step ws (Expr-F.Shift op a b) = two_shape (λ a b. true) left_width false a b
shape_step ws (Expr-F.Compare op a b) = two_shape same_width (λ v w. 1) true a b
shape_step ws (Expr-F.SignedCompare op a b) = two_shape same_width (λ v w. 1) true a b
shape_step ws (Expr-F.Extend op w a) = one_shape (λ v. nat_lt v w.bytes) (λ v. w.bytes) a
shape_step ws (Expr-F.Part dropped w a) = one_shape (is_part dropped w.bytes) (λ v. w.bytes) a
shape_step ws (Expr-F.Concat a b) = two_shape may_join (λ v w. v + w) false a b
shape_step ws (Expr-F.Overflow op a b) = two_shape same_width (λ v w. 1) false a b
shape_step ws (Expr-F.Count op a) = one_shape (λ v. true) (λ v. 1) a

-- the shape of an expression that obeys the rules, else None
unfoldable pub shape_of : (ℕ → ℕ) → Expr → Option Shape
shape_of ws e = fold-Expr (Option Shape) (shape_step ws) e

-- ---- expressions in statements

-- of any width
abbrev pub is_right : Option Shape → Bool
is_right None = false
is_right (Some s) = true

abbrev pub has_width : ℕ → Option Shape → Bool
has_width w None = false
has_width w (Some s) = s.width == w

-- A condition that is no comparison counts one level more, so that its negation, a comparison with 0, fits too.
abbrev pub is_condition : Option Shape → Bool
is_condition None = false
is_condition (Some s) = if s.comparison then true else nat_lt s.depth 64
