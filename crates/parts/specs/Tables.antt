-- What stands in the place of a variable, by a table. Past the end of a table each variable keeps its own place.
-- This project's own.
use Rattle.std.specs.Prelude.{ℕ, List, slice_get, Option, Some, None}
use Rattle.cmeaning.specs.declared.tree.Expr.{Expr}
use Rattle.cmeaning.specs.declared.tree.Expr.TheVariants as E

abbrev pub name_or : ℕ → Option ℕ → ℕ
name_or v None = v
name_or v (Some name) = name

-- another name
abbrev pub name_in : List ℕ → ℕ → ℕ
name_in names v = name_or v (slice_get names v)

abbrev pub expr_or : ℕ → Option (Option Expr) → Expr
expr_or v None = E.Var v
expr_or v (Some None) = E.Var v
expr_or v (Some (Some e)) = e

-- an expression, where the table has one
abbrev pub expr_in : List (Option Expr) → ℕ → Expr
expr_in exprs v = expr_or v (slice_get exprs v)
