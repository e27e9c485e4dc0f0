-- A MULTIEQUAL whose inputs are all one value or itself, and the function in which that value stands in its place.
use Rattle.std.specs.Prelude.{◌≡◌, ◌≢◌, ℕ, ◌⊎◌, Some}
use Rattle.node_lists.specs.Chains.{IsIn}
use Rattle.opgraph.specs.Graph.{OpRow}
use Rattle.ssa_model.specs.Roles.{role_of}
use Rattle.ssa_model.specs.Outline.{Form}
use Rattle.ssa_model.specs.Paths.{IsJoin}
use Rattle.ssa_model.specs.Edits.{renaming, without_op}

-- the MULTIEQUAL x, of this row, has no inputs but the value w and itself
pub record IsTrivial (f : Form) (x w : ℕ) (r : OpRow) : Type 0 where
  pub row : f.rows x ≡ Some r
  pub join : IsJoin (role_of r.code)
  pub inputs : (v : ℕ) → IsIn v r.inputs → (v ≡ w) ⊎ (v ≡ x)
  pub reads : IsIn w r.inputs
  pub other : w ≢ x

-- each use of x reads w, and x is gone
abbrev pub replaced : ℕ → ℕ → OpRow → Form → Form
replaced x w r f = without_op x r (renaming x w f)
