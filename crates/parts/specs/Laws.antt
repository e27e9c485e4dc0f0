-- What is proved of expressions and statements by their parts. Each law is the contract of a function of its name.
use Rattle.std.specs.Prelude.{◌≡◌, ℕ, Bool, Some}
use Rattle.pcode_model.specs.declared.listing.Listing.{Listing}
use Rattle.cmeaning.specs.declared.tree.Expr.{Expr}
use Rattle.cmeaning.specs.declared.tree.Stmt.{Stmt}
use Rattle.cmeaning.specs.declared.shape.Shape.{Shape}
use Rattle.cmeaning.specs.Shape.{shape_of}
use Rattle.cmeaning.specs.Value.{width_of, value_of}
use Rattle.cmeaning.specs.Do.{Local, values_of, do_simple}
use Rattle.parts.specs.Exprs.{Env, reads, depth, with_all, seen_through, KeepsWidths, all_of, IsTotal}
use Rattle.parts.specs.Stmts.{args_of, Changes, changed, done_with, done_by}

-- The value with expressions in the place of variables is that of the expression in the environment that they give.
pub record ValueOfReplaced : Type 0 where
  pub value : (ws ws' : ℕ → ℕ) (f : ℕ → Expr) (t : Env) (e : Expr)
      → KeepsWidths ws ws' f (reads e)
      → value_of ws' t (with_all f e) ≡ value_of ws (seen_through ws' f t) e
  pub width : (ws ws' : ℕ → ℕ) (f : ℕ → Expr) (e : Expr)
      → KeepsWidths ws ws' f (reads e)
      → width_of ws' (with_all f e) ≡ width_of ws e

-- What a simple statement does depends on its target, on what kind it is, and on its arguments' widths and values.
abbrev pub DoneByParts : Type 0
DoneByParts =
    (l : Listing) (ws : ℕ → ℕ) (returns : ℕ → Bool) (s : Stmt) (x : Local)
    → do_simple l ws returns s x
    ≡ done_with (all_of (values_of ws x.env (args_of s))) x (done_by l ws returns s x)

-- a statement with other parts
abbrev pub ChangedByParts : Type 0
ChangedByParts = (g : ℕ → ℕ) (f : ℕ → Expr) (s : Stmt) → Changes g f s (changed g f s)

-- An expression that obeys the rules of a valid tree has a value wherever its variables have one, and its shape's
-- depth.
pub record RightIsTotal : Type 0 where
  pub total : (ws : ℕ → ℕ) (e : Expr) (s : Shape) → shape_of ws e ≡ Some s → IsTotal ws e
  pub depth : (ws : ℕ → ℕ) (e : Expr) (s : Shape) → shape_of ws e ≡ Some s → s.depth ≡ depth e
