-- What the form of an SSA function is told by: its blocks, and of each op all but which values it reads.
use Rattle.std.specs.Prelude.{ℕ, ◌==◌, Bool, true, false, if◌then◌else◌, List, [], ◌∷◌, length, map, Option, Some, None}
use Rattle.bits_core.specs.declared.word.Width.{Width}
use Rattle.opgraph.specs.declared.ids.BlockId.{BlockId}
use Rattle.opgraph.specs.Graph.{OpRow, op_at, block_at}
use Rattle.ssa_model.specs.declared.form.Arm.{Arm}
use Rattle.ssa_model.specs.declared.form.SsaExit.{SsaExit}
use Rattle.ssa_model.specs.declared.form.SsaExit.TheVariants as X
use Rattle.ssa_model.specs.declared.form.SsaBlock.{SsaBlock}
use Rattle.ssa_model.specs.declared.form.Parts.{Parts}
use Rattle.node_lists.specs.Chains.{IsIn}
use Rattle.sorting.specs.Order.{by_key}
use Rattle.ssa_model.specs.Roles.{Role, Joins, role_of}

-- ---- blocks

abbrev pub numbers_of : List BlockId → List ℕ
numbers_of = map (λ (b : BlockId). b.0)

-- the blocks that an exit can lead to
abbrev pub targets : SsaExit → List ℕ
targets X.Return = []
targets (X.Jump to) = to.0 ∷ []
targets (X.Test taken other) = taken.0 ∷ other.0 ∷ []
targets (X.Switch arms) = map (λ (a : Arm). a.to.0) arms
targets X.Stop = []

-- the block of a number
abbrev pub block_with : ℕ → List SsaBlock → Option SsaBlock
block_with b [] = None
block_with b (x ∷ xs) = if x.id.0 == b then Some x else block_with b xs

abbrev pub exit_in : Option SsaBlock → Option SsaExit
exit_in None = None
exit_in (Some x) = Some x.exit

abbrev pub targets_in : Option SsaBlock → List ℕ
targets_in None = []
targets_in (Some x) = targets x.exit

abbrev pub predecessors_in : Option SsaBlock → List ℕ
predecessors_in None = []
predecessors_in (Some x) = numbers_of x.predecessors

abbrev pub ids : List SsaBlock → List ℕ
ids = map (λ (x : SsaBlock). x.id.0)

module _ (blocks : List SsaBlock) where
  abbrev pub exit_at : ℕ → Option SsaExit
  exit_at b = exit_in (block_with b blocks)

  abbrev pub predecessors_at : ℕ → List ℕ
  predecessors_at b = predecessors_in (block_with b blocks)

  -- an exit of the first block leads to the second
  abbrev pub Leads : ℕ → ℕ → Type 0
  Leads b c = IsIn c (targets_in (block_with b blocks))

-- ---- ops

-- The width of the value is 0 where there is none. Of the inputs it has the widths alone.
pub record OpForm : Type 0 where
  pub block : ℕ
  pub role : Role
  pub width : ℕ
  pub inputs : List ℕ

abbrev pub bytes_of : Option Width → ℕ
bytes_of None = 0
bytes_of (Some w) = w.bytes

-- the ops by their numbers
abbrev pub Rows : Type 0
Rows = ℕ → Option OpRow

abbrev pub width_in : Option OpRow → ℕ
width_in None = 0
width_in (Some r) = bytes_of r.width

-- the width of a value in bytes, 0 where there is no such value
abbrev pub width_at : Rows → ℕ → ℕ
width_at rows v = width_in (rows v)

abbrev pub only : (ℕ → Bool) → List ℕ → List ℕ
only keeps [] = []
only keeps (x ∷ xs) = if keeps x then x ∷ only keeps xs else only keeps xs

abbrev pub role_in : Option OpRow → Option Role
role_in None = None
role_in (Some r) = Some (role_of r.code)

abbrev pub role_at : Rows → ℕ → Option Role
role_at rows x = role_in (rows x)

abbrev pub is_multi : Option Role → Bool
is_multi (Some (Joins atom)) = true
is_multi role = false

-- the atom that a MULTIEQUAL stands for, 0 of another op
abbrev pub atom_in : Option Role → ℕ
atom_in (Some (Joins atom)) = atom
atom_in role = 0

-- the MULTIEQUALs among some ops, by their atoms
abbrev pub multis_of : Rows → List ℕ → List ℕ
multis_of rows xs = by_key (λ x. atom_in (role_at rows x)) (only (λ x. is_multi (role_at rows x)) xs)

abbrev pub form_of : Rows → OpRow → OpForm
form_of rows r = record {
  block = r.block;
  role = role_of r.code;
  width = bytes_of r.width;
  inputs = map (width_at rows) r.inputs;
}

abbrev pub form_in : Rows → Option OpRow → Option OpForm
form_in rows None = None
form_in rows (Some r) = Some (form_of rows r)

abbrev pub forms_of : Rows → ℕ → Option OpForm
forms_of rows x = form_in rows (rows x)

-- ---- a function

-- What a function is: its ops, the ops of each block in order, how many blocks the graph has, the list of blocks, and
-- the block where a run begins.
pub record Form : Type 0 where
  pub rows : Rows
  pub lists : ℕ → List ℕ
  pub count : ℕ
  pub blocks : List SsaBlock
  pub entry : ℕ

abbrev pub form : Parts → Form
form p = record {
  rows = op_at p.graph;
  lists = block_at p.graph;
  count = length p.graph.blocks;
  blocks = p.blocks;
  entry = p.entry.0;
}

-- the same, without which values the ops read
pub record Outline : Type 0 where
  pub forms : ℕ → Option OpForm
  pub lists : ℕ → List ℕ
  pub count : ℕ
  pub blocks : List SsaBlock
  pub entry : ℕ

abbrev pub outline : Form → Outline
outline f = record {
  forms = forms_of f.rows;
  lists = f.lists;
  count = f.count;
  blocks = f.blocks;
  entry = f.entry;
}
