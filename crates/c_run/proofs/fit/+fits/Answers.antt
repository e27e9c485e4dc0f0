use Rattle.std.proofs.Common.{◌≡◌, ℕ, Bool, List, map, sym, ap, ◌∙◌}
use Rattle.pcode_model.specs.declared.listing.Listing.{Listing}
use Rattle.cmeaning.specs.declared.tree.Arm.{Arm}
use Rattle.cmeaning.specs.declared.tree.Expr.{Expr}
use Rattle.cmeaning.specs.declared.tree.Stmt.{fold-roll-Stmt}
use Rattle.cmeaning.specs.declared.tree.Stmt.TheOpen.{Stmt-F}
use Rattle.cmeaning.specs.declared.tree.Stmt.TheVariants as S
use Rattle.cmeaning.specs.Do.{widths_in}
use Rattle.cmeaning.specs.Fits.{all_true, arm_fits, arm_step, fits_step, stmt_fits}
use Rattle.c_run.proofs.fit.+fits.Goals as goal

switch_fits : (l : Listing) (ws : ℕ → ℕ) (e : Expr) (arms : List Arm)
    → stmt_fits l ws (S.Switch e arms) ≡ all_true (map (arm_fits l ws) arms)
unfolding stmt_fits arm_fits
switch_fits l ws e arms =
    ap (stmt_fits l ws) (sym (S.rolls-Switch e arms))
    ∙ fold-roll-Stmt Bool Bool (fits_step l ws) arm_step (Stmt-F.Switch e arms)

pub stmt_fits-returns-in-Switch : goal.stmt_fits-returns-in-Switch
stmt_fits-returns-in-Switch t c =
    let l = c.args.listing.now in
    let ws = widths_in c.args.f.now in
    c.arms_fit.ensures ∙ ap (λ (xs : List Arm). all_true (map (arm_fits l ws) xs)) c.as_slice-in-Switch.ensures
    ∙ sym (switch_fits l ws c.in-Switch.value c.in-Switch.arms) ∙ ap (stmt_fits l ws) (sym c.in-Switch.is)
