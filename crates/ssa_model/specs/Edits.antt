-- What contracts see of an SSA function, and edits of it.
use Rattle.std.specs.Prelude.{ℕ, ◌+◌, ◌-◌, ◌^◌, min, List, Some, None}
use Rattle.opgraph.specs.Graph.{OpRow, renamed_row}
use Rattle.node_lists.specs.Chains.{IsIn, removed, put_at}
use Rattle.node_lists.specs.Families.{inserted}
use Rattle.ssa_model.specs.declared.form.Parts.{Parts}
use Rattle.ssa_model.specs.Outline.{Form, form, outline}
use Rattle.ssa_model.specs.Paths.{UsedAt, Available, before_op, Strict}
use Rattle.ssa_model.specs.Formed.{Formed}

-- the parts, and how many changes were made since the function was sealed
pub record SsaForm : Type 0 where
  pub parts : Parts
  pub edits : ℕ

abbrev pub form_at : SsaForm → Form
form_at f = form f.parts

-- strict and formed
pub record IsSsa (f : Form) : Type 0 where
  pub strict : Strict f
  pub formed : Formed (outline f)

-- one change more, or as many as before where the count is at its end
abbrev pub one_more : ℕ → ℕ
one_more n = min (n + 1) (2 ^ 64 - 1)

-- each use of the old value reads the new one
abbrev pub renaming : ℕ → ℕ → Form → Form
renaming before after f = record f { rows = λ x. renamed_row before after (f.rows x) }

-- a value is available wherever another one is read
pub record IsAvailableFor (f : Form) (before after : ℕ) : Type 0 where
  pub at : (b : ℕ) (ops : List ℕ) → UsedAt f before b ops → Available (outline f) after b ops

-- the op x is told by another row
abbrev pub with_row : ℕ → OpRow → Form → Form
with_row x r f = record f { rows = put_at (Some x) (Some r) f.rows }

-- values are available at the op x
pub record AreAvailable (f : Form) (x : ℕ) (r : OpRow) (vs : List ℕ) : Type 0 where
  pub at : (v : ℕ) → IsIn v vs → Available (outline f) v r.block (before_op x (f.lists r.block))

-- the op x is new, and stands directly before another one
abbrev pub with_op : ℕ → ℕ → OpRow → Form → Form
with_op x at r f = record f {
  rows = put_at (Some x) (Some r) f.rows;
  lists = put_at (Some r.block) (inserted x at (f.lists r.block)) f.lists;
}

-- the op x is gone from its block
abbrev pub without_op : ℕ → OpRow → Form → Form
without_op x r f = record f {
  rows = put_at (Some x) None f.rows;
  lists = put_at (Some r.block) (removed x (f.lists r.block)) f.lists;
}
