-- Paths from the entry, what they pass, and what is read on them.
use Rattle.std.specs.Prelude.{◌≡◌, ℕ, ◌==◌, if◌then◌else◌, List, [], ◌∷◌, ◌⊎◌, Option, Some, None, slice_get}
use Rattle.node_lists.specs.Chains.{IsIn}
use Rattle.opgraph.specs.Graph.{OpRow}
use Rattle.ssa_model.specs.declared.form.SsaBlock.{SsaBlock}
use Rattle.ssa_model.specs.Roles.{Role, Joins, role_of}
use Rattle.ssa_model.specs.Outline.{Leads, OpForm, Form, Outline, outline, predecessors_at}

-- from the entry to a block, with the blocks that were passed before it, the last one first
pub data Path (blocks : List SsaBlock) (entry : ℕ) : List ℕ → ℕ → Type 0 where
  Start : Path blocks entry [] entry
  Step : (passed : List ℕ) (from to : ℕ)
      → Path blocks entry passed from
      → Leads blocks from to
      → Path blocks entry (from ∷ passed) to

-- the op stands in a block that was passed, or before a place of the last block
abbrev pub IsPassed : Option OpForm → ℕ → (passed before : List ℕ) → Type 0
IsPassed None x passed before = ⊥
IsPassed (Some f) x passed before = IsIn f.block passed ⊎ IsIn x before

-- Every path from the entry to a place of a block passes the op that makes the value. The place is told by the ops of
-- the block that stand before it.
abbrev pub Available : Outline → ℕ → ℕ → (before : List ℕ) → Type 0
Available o v b before =
    (passed : List ℕ) → Path o.blocks o.entry passed b → IsPassed (o.forms v) v passed before

-- the ops that stand before x
abbrev pub before_op : ℕ → List ℕ → List ℕ
before_op x [] = []
before_op x (y ∷ ys) = if y == x then [] else y ∷ before_op x ys

abbrev pub IsJoin : Role → Type 0
IsJoin (Joins atom) = Unit {0}
IsJoin role = ⊥

-- A value is read at a place of a block, which is told by the ops of the block that stand before it. An op reads its
-- inputs where it stands, and a MULTIEQUAL its input for a predecessor at that block's end.
pub data UsedAt (f : Form) (v b : ℕ) (before : List ℕ) : Type 0 where
  Read : (x : ℕ) (r : OpRow)
      → f.rows x ≡ Some r
      → (IsJoin (role_of r.code) → ⊥)
      → IsIn v r.inputs
      → b ≡ r.block
      → before ≡ before_op x (f.lists r.block)
      → UsedAt f v b before
  Joined : (x k : ℕ) (r : OpRow)
      → f.rows x ≡ Some r
      → IsJoin (role_of r.code)
      → slice_get (predecessors_at f.blocks r.block) k ≡ Some b
      → slice_get r.inputs k ≡ Some v
      → before ≡ f.lists b
      → UsedAt f v b before

-- every path from the entry to a use passes the definition
pub record Strict (f : Form) : Type 0 where
  pub passes : (v b : ℕ) (before : List ℕ) → UsedAt f v b before → Available (outline f) v b before
