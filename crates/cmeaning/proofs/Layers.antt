-- What is computed of a tree by folding it, layer by layer.
use Rattle.std.proofs.Common.{◌≡◌, ℕ, Bool, Option}
use Rattle.pcode_model.specs.declared.listing.Listing.{Listing}
use Rattle.cmeaning.specs.declared.shape.Shape.{Shape}
use Rattle.cmeaning.specs.declared.tree.Arm.{Arm}
use Rattle.cmeaning.specs.declared.tree.Expr.{Expr, fold-roll-Expr, roll-Expr, map-Expr}
use Rattle.cmeaning.specs.declared.tree.Expr.TheOpen.{Expr-F}
use Rattle.cmeaning.specs.declared.tree.Stmt.{Stmt, fold-roll-Stmt, roll-Stmt, map-Stmt}
use Rattle.cmeaning.specs.declared.tree.Stmt.TheFolds.{fold_out-Arm}
use Rattle.cmeaning.specs.declared.tree.Stmt.TheOpen.{Stmt-F}
use Rattle.cmeaning.specs.Fits.{arm_fits, arm_step, body_fits, fits_step, stmt_fits}
use Rattle.cmeaning.specs.Shape.{shape_step, shape_of}

-- the shape of an expression
pub shape_roll : (ws : ℕ → ℕ) (l : Expr-F Expr)
    → shape_of ws (roll-Expr l) ≡ shape_step ws (map-Expr Expr (Option Shape) (shape_of ws) l)
unfolding shape_of
shape_roll ws l = fold-roll-Expr (Option Shape) (shape_step ws) l

-- whether a statement fits a listing
pub fits_roll : (l : Listing) (ws : ℕ → ℕ) (y : Stmt-F Stmt Arm)
    → stmt_fits l ws (roll-Stmt y) ≡ fits_step l ws (map-Stmt Stmt Arm Bool Bool (stmt_fits l ws) (arm_fits l ws) y)
unfolding stmt_fits arm_fits
fits_roll l ws y = fold-roll-Stmt Bool Bool (fits_step l ws) arm_step y

-- whether an arm does
pub arm_fits_is : (l : Listing) (ws : ℕ → ℕ) (a : Arm) → arm_fits l ws a ≡ body_fits l ws a.body
unfolding stmt_fits arm_fits
arm_fits_is l ws a = fold_out-Arm Bool Bool (fits_step l ws) arm_step a
