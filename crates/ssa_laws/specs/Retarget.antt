-- An op that does something else, by which its value is the same.
use Rattle.std.specs.Prelude.{◌≡◌, ℕ, true, List, [], ◌∷◌, Some, None}
use Rattle.pcode_model.specs.declared.listing.Listing.{Listing}
use Rattle.pcode_model.specs.World.{Entry}
use Rattle.cmeaning.specs.declared.tree.Stmt.{Stmt}
use Rattle.parts.specs.Stmts.{action_of}
use Rattle.opgraph.specs.Graph.{OpRow, op_at}
use Rattle.ssa_model.specs.declared.form.Parts.{Parts}
use Rattle.ssa_model.specs.Outline.{form}
use Rattle.ssa_model.specs.Edits.{with_row}
use Rattle.ssa_model.specs.Lines.{line_of}
use Rattle.ssa_model.specs.Run.{blocks_of}
use Rattle.ssa_laws.specs.Law.{computes, value_in, state_after, StandsAt}

-- The op x of the function p has the row s in the place of r, in q. It computes its value before and after, by the
-- statements a and b, and wherever the run of p comes to it both have the same value.
pub record IsSameValue (l : Listing) (p q : Parts) (x : ℕ) (r s : OpRow) (a b : Stmt) : Type 0 where
  pub row : op_at p.graph x ≡ Some r
  pub form : form q ≡ with_row x s (form p)
  pub block : s.block ≡ r.block
  pub width : s.width ≡ r.width
  pub before : line_of l x (Some r) ≡ a ∷ []
  pub after : line_of l x (Some s) ≡ b ∷ []
  pub computes_before : computes (action_of a) ≡ true
  pub computes_after : computes (action_of b) ≡ true
  pub value : (e : Entry) (n : ℕ) (ops behind : List ℕ)
      → (state_after l p e n).local.world.over ≡ None
      → StandsAt l p (state_after l p e n) ops (x ∷ behind)
      → (m : ℕ)
      × (value_in (blocks_of l p).widths (state_after l p e n).local.env a ≡ Some m)
      × (value_in (blocks_of l p).widths (state_after l p e n).local.env b ≡ Some m)

-- the runs stand in the same block after each step, with the same words and the same world
abbrev pub RunAlike : Listing → Parts → Parts → Type 0
RunAlike l p q =
    (e : Entry) (n : ℕ)
    → ((state_after l q e n).block ≡ (state_after l p e n).block)
    × ((state_after l q e n).local ≡ (state_after l p e n).local)

-- An op of the same value leaves the run equal step by step.
abbrev pub SameValueRunsAlike : Listing → Parts → Parts → Type 0
SameValueRunsAlike l p q = (x : ℕ) (r s : OpRow) (a b : Stmt) → IsSameValue l p q x r s a b → RunAlike l p q
