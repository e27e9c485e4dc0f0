-- A laid-out function fits a listing where the statements of its code do: labels, gotos and exits name no space.
use Rattle.std.proofs.Common.{◌≡◌, ℕ, suc, ◌&&◌, Bool, true, false, List, [], ◌∷◌, ◌++◌, map, Option, refl, ap, ◌∙◌}
use Rattle.std.specs.Prelude.{◌==◌, IsTrue, cond}
use Rattle.pcode_model.specs.declared.listing.Listing.{Listing}
use Rattle.cmeaning.specs.declared.tree.Expr.{Expr}
use Rattle.cmeaning.specs.declared.tree.Stmt.{Stmt}
use Rattle.cmeaning.specs.declared.tree.Stmt.TheOpen.{Stmt-F}
use Rattle.cmeaning.specs.declared.tree.Stmt.TheVariants as S
use Rattle.cmeaning.specs.Fits.{Fits, all_true, arm_fits, params_fit}
use Rattle.cmeaning.proofs.Layers.{arm_fits_is}
use Rattle.naming.specs.declared.head.Head.{Head}
use Rattle.naming.specs.Covered.{IsCovered}
use Rattle.naming.specs.Run.{widths_of}
use Rattle.naming_laws.proofs.Fit.{named_fits}
use Rattle.blockcode.specs.declared.code.Arm.{Arm}
use Rattle.blockcode.specs.declared.code.Block.{Block}
use Rattle.blockcode.specs.declared.code.Code.{Code}
use Rattle.blockcode.specs.declared.code.Exit.{Exit}
use Rattle.blockcode.specs.declared.code.Exit.TheVariants as X
use Rattle.blockcode.specs.Laid.{branch_to, branches, by_value, exit_lines, goto, is_named, label_line, laid_body, laid_from, targets}
use Rattle.layout.specs.Fitting.{BlocksFit, BodyFits}
use Rattle.layout.specs.Function.{laid_out}
use Rattle.layout.proofs.Fitting.{append_fits, fits_layer, one_fits}

module _ (l : Listing) (ws : ℕ → ℕ) where
  abbrev Fit : List Stmt → Type 0
  Fit ss = BodyFits l ws ss

  label_fits : (b : Bool) (n : ℕ) → Fit (label_line b n)
  label_fits false n = refl
  label_fits true n = one_fits l ws (S.Label n) (fits_layer l ws (S.Label n) (Stmt-F.Label n) (S.rolls-Label n))

  goto_fits : (n : ℕ) → Fit (S.Goto n ∷ [])
  goto_fits n = one_fits l ws (S.Goto n) (fits_layer l ws (S.Goto n) (Stmt-F.Goto n) (S.rolls-Goto n))

  jump_fits : (next to : ℕ) → Fit (goto next to)
  jump_fits next to = by (to == next) where
    by : (same : Bool) → Fit (cond same [] (S.Goto to ∷ []))
    by true = refl
    by false = goto_fits to

  branches_fit : (arms : List Arm) (ts : List ℕ) → all_true (map (arm_fits l ws) (map (branch_to arms) ts)) ≡ true
  branches_fit arms [] = refl
  branches_fit arms (t ∷ ts) =
      ap (λ b. b && all_true (map (arm_fits l ws) (map (branch_to arms) ts)))
      (arm_fits_is l ws (branch_to arms t) ∙ goto_fits t)
      ∙ branches_fit arms ts

  if_fits : (c : Expr) (body : List Stmt) → Fit body → Fit (S.If c body ∷ [])
  if_fits c body h =
      one_fits l ws (S.If c body) (fits_layer l ws (S.If c body) (Stmt-F.If c body) (S.rolls-If c body) ∙ h)

  return_fits : (e : Option Expr) → Fit (S.Return e ∷ [])
  return_fits e = one_fits l ws (S.Return e) (fits_layer l ws (S.Return e) (Stmt-F.Return e) (S.rolls-Return e))

  switch_fits : (e : Expr) (arms : List Arm) → Fit (S.Switch e (branches arms) ∷ [])
  switch_fits e arms =
      let s = S.Switch e (branches arms) in
      one_fits l ws s
      (fits_layer l ws s (Stmt-F.Switch e (branches arms)) (S.rolls-Switch e (branches arms))
      ∙ branches_fit arms (targets arms))

  exit_fits : (next : ℕ) (e : Exit) → Fit (exit_lines next e)
  exit_fits next (X.Return e) = return_fits e
  exit_fits next (X.Jump to) = jump_fits next to
  exit_fits next (X.Test c taken other) =
      append_fits l ws (S.If c (S.Goto taken ∷ []) ∷ []) (goto next other)
      (if_fits c (S.Goto taken ∷ []) (goto_fits taken))
      (jump_fits next other)
  exit_fits next (X.Switch e arms) = switch_fits e (by_value arms)
  exit_fits next X.Stop = refl

  blocks_fit : (named : ℕ → Bool) (n : ℕ) (blocks : List Block)
      → BlocksFit l ws blocks
      → Fit (laid_from named n blocks)
  blocks_fit named n [] h = refl
  blocks_fit named n (x ∷ xs) h =
      let ex = exit_lines (suc n) x.exit in
      let rest = laid_from named (suc n) xs in
      append_fits l ws (label_line (named n) n) (x.body ++ (ex ++ rest)) (label_fits (named n) n)
      (append_fits l ws x.body (ex ++ rest) h.0
      (append_fits l ws ex rest (exit_fits (suc n) x.exit) (blocks_fit named (suc n) xs h.1)))

  -- the lines of a code fit where its statements do
  body_laid_fits : (k : Code) → BlocksFit l ws k.blocks → Fit (laid_body k)
  body_laid_fits k h =
      append_fits l ws (goto 0 k.entry) (laid_from (is_named k) 0 k.blocks)
      (jump_fits 0 k.entry)
      (blocks_fit (is_named k) 0 k.blocks h)

-- The function that a code is laid out as below a head fits a listing, where the head's parameters and the statements of
-- the code's blocks do.
pub laid_fits : (l : Listing) (h : Head) (k : Code)
    → IsCovered h (laid_body k)
    → IsTrue (params_fit l h.params)
    → BlocksFit l (widths_of h) k.blocks
    → Fits l (laid_out h k)
laid_fits l h k covered params blocks =
    named_fits l h (laid_body k) covered params (body_laid_fits l (widths_of h) k blocks)
