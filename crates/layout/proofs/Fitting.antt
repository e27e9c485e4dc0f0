-- Lines fit a listing one by one and one list behind another.
use Rattle.std.proofs.Common.{◌≡◌, ℕ, ◌&&◌, Bool, true, List, [], ◌∷◌, ◌++◌, sym, ap, ◌∙◌}
use Rattle.std.proofs.lemmas.Bool.{and_parts}
use Rattle.pcode_model.specs.declared.listing.Listing.{Listing}
use Rattle.cmeaning.specs.declared.tree.Arm.{Arm}
use Rattle.cmeaning.specs.declared.tree.Stmt.{Stmt, roll-Stmt, map-Stmt}
use Rattle.cmeaning.specs.declared.tree.Stmt.TheOpen.{Stmt-F}
use Rattle.cmeaning.specs.Fits.{arm_fits, body_fits, fits_step, stmt_fits}
use Rattle.cmeaning.proofs.Layers.{fits_roll}
use Rattle.layout.specs.Fitting.{BodyFits}

module _ (l : Listing) (ws : ℕ → ℕ) where
  -- of a statement that is a layer
  pub fits_layer : (s : Stmt) (y : Stmt-F Stmt Arm)
      → roll-Stmt y ≡ s
      → stmt_fits l ws s ≡ fits_step l ws (map-Stmt Stmt Arm Bool Bool (stmt_fits l ws) (arm_fits l ws) y)
  fits_layer s y is = ap (stmt_fits l ws) (sym is) ∙ fits_roll l ws y

  -- one line
  pub one_fits : (s : Stmt) → stmt_fits l ws s ≡ true → BodyFits l ws (s ∷ [])
  one_fits s is = ap (λ b. b && true) is

  -- two lists of lines
  pub append_fits : (xs ys : List Stmt) → BodyFits l ws xs → BodyFits l ws ys → BodyFits l ws (xs ++ ys)
  append_fits [] ys h g = g
  append_fits (x ∷ xs) ys h g =
      let both = and_parts (stmt_fits l ws x) (body_fits l ws xs) h in
      ap (λ b. b && body_fits l ws (xs ++ ys)) both.0 ∙ append_fits xs ys both.1 g
