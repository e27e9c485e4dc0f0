-- What is seen in a tree: the one expression that stands at a place.
use Rattle.std.specs.Prelude.{◌≡◌, ℕ, ◌+◌, min, List, slice_get, Option, Some, None}
use Rattle.bits_core.specs.declared.word.Width.{Width}
use Rattle.cmeaning.specs.declared.tree.Expr.{Expr, fold-Expr}
use Rattle.cmeaning.specs.declared.tree.Expr.TheOpen.{Expr-F}
use Rattle.rule_views.specs.Sees.{IsSized}

abbrev pub width_in : Option Width → ℕ
width_in None = 0
width_in (Some w) = w.bytes

-- the widths of the variables, 0 where there is none
abbrev pub widths_by : List Width → ℕ → ℕ
widths_by widths v = width_in (slice_get widths v)

-- The width of an expression by its operands' widths, which is its size where they agree. A width past 255 bytes counts
-- as 255; no size is so great.
abbrev pub bytes_step : (ℕ → ℕ) → Expr-F ℕ → ℕ
bytes_step ws (Expr-F.Const c) = c.width.bytes
bytes_step ws (Expr-F.Var v) = ws v
bytes_step ws (Expr-F.Unary op a) = a
bytes_step ws (Expr-F.Arithmetic op a b) = a
bytes_step ws (Expr-F.Division op a b) = a
bytes_step ws (Expr-F.SignedDivision op a b) = a
bytes_step ws (Expr-F.Shift op a b) = a
bytes_step ws (Expr-F.Compare op a b) = 1
bytes_step ws (Expr-F.SignedCompare op a b) = 1
bytes_step ws (Expr-F.Extend op w a) = w.bytes
bytes_step ws (Expr-F.Part k w a) = w.bytes
bytes_step ws (Expr-F.Concat a b) = min (a + b) 255
bytes_step ws (Expr-F.Overflow op a b) = 1
bytes_step ws (Expr-F.Count op a) = 1

unfoldable pub bytes_of : (ℕ → ℕ) → Expr → ℕ
bytes_of ws e = fold-Expr ℕ (bytes_step ws) e

-- this expression, among variables of these widths
pub record IsIn (widths : List Width) (now : Expr) (ws : ℕ → ℕ) (e : Expr) : Type 0 where
  pub widths_are : ws ≡ widths_by widths
  pub is : now ≡ e
  pub sized : IsSized ws e
