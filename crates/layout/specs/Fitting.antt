-- When the statements of a code fit a listing, by the widths of its variables. Labels, gotos and exits always do.
-- This project's own.
use Rattle.std.specs.Prelude.{◌≡◌, ℕ, true, List, [], ◌∷◌}
use Rattle.pcode_model.specs.declared.listing.Listing.{Listing}
use Rattle.cmeaning.specs.declared.tree.Stmt.{Stmt}
use Rattle.cmeaning.specs.Fits.{body_fits}
use Rattle.blockcode.specs.declared.code.Block.{Block}

abbrev pub BodyFits : Listing → (ℕ → ℕ) → List Stmt → Type 0
BodyFits l ws ss = body_fits l ws ss ≡ true

-- the statements of each block
abbrev pub BlocksFit : Listing → (ℕ → ℕ) → List Block → Type 0
BlocksFit l ws [] = Unit {0}
BlocksFit l ws (x ∷ xs) = BodyFits l ws x.body × BlocksFit l ws xs
