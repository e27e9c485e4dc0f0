-- Reads of a value that read another one, which holds the same there.
use Rattle.std.specs.Prelude.{◌≡◌, ℕ, List, None}
use Rattle.pcode_model.specs.declared.listing.Listing.{Listing}
use Rattle.pcode_model.specs.World.{Entry}
use Rattle.opgraph.specs.Graph.{op_at}
use Rattle.ssa_model.specs.declared.form.Parts.{Parts}
use Rattle.ssa_model.specs.Outline.{form, width_at}
use Rattle.ssa_model.specs.Paths.{UsedAt}
use Rattle.ssa_model.specs.Edits.{renaming}
use Rattle.ssa_laws.specs.Law.{state_after, StandsAt}
use Rattle.ssa_laws.specs.Retarget.{RunAlike}

-- In q each use of the old value of p reads the new one. Wherever the run of p comes to a use of the old value, at an
-- op, at an exit, or at the end of a block from which a MULTIEQUAL takes it, both hold the same.
pub record IsSameWord (l : Listing) (p q : Parts) (old new : ℕ) : Type 0 where
  pub edited : form q ≡ renaming old new (form p)
  pub width : width_at (op_at p.graph) old ≡ width_at (op_at p.graph) new
  pub word : (e : Entry) (n : ℕ) (before behind : List ℕ)
      → (state_after l p e n).local.world.over ≡ None
      → StandsAt l p (state_after l p e n) before behind
      → UsedAt (form p) old (state_after l p e n).block before
      → (state_after l p e n).local.env new ≡ (state_after l p e n).local.env old

-- To read the other value leaves the run equal step by step.
abbrev pub SameWordRunsAlike : Listing → Parts → Parts → Type 0
SameWordRunsAlike l p q = (old new : ℕ) → IsSameWord l p q old new → RunAlike l p q
