-- What is known of the values of an SSA function wherever they are available.
use Rattle.std.specs.Prelude.{◌≡◌, ℕ, ◌<◌, Bool, true, false, List, [], ◌∷◌, ◌++◌, Option, Some, None}
use Rattle.bits_core.specs.Value.{divide_value}
use Rattle.machine.specs.Machine.{after}
use Rattle.pcode_model.specs.declared.listing.Listing.{Listing}
use Rattle.pcode_model.specs.declared.storage.ParamStorage.{ParamStorage}
use Rattle.pcode_model.specs.World.{Entry}
use Rattle.cmeaning.specs.declared.tree.Stmt.{Stmt}
use Rattle.cmeaning.specs.Do.{divide_of, values_of}
use Rattle.cmeaning.specs.Step.{word_at}
use Rattle.parts.specs.Exprs.{Env, Holds, all_of, widths_of}
use Rattle.parts.specs.Stmts.{Action, Sets, Divides, action_of, args_of}
use Rattle.edges.specs.Run.{Going, blocks_step, start_blocks}
use Rattle.opgraph.specs.Graph.{OpRow, op_at, block_at}
use Rattle.ssa_model.specs.declared.form.Parts.{Parts}
use Rattle.ssa_model.specs.Roles.{Starts, role_of}
use Rattle.ssa_model.specs.Outline.{bytes_of, form, outline}
use Rattle.ssa_model.specs.Paths.{Available, IsJoin}
use Rattle.ssa_model.specs.Lines.{line_of, body_of}
use Rattle.ssa_model.specs.Run.{blocks_of}

-- ---- the value that an op computes

-- an assignment has the value of its expression, a division its quotient or remainder
abbrev pub computes : Action → Bool
computes Sets = true
computes (Divides op) = true
computes action = false

-- by the widths and the values of the arguments
abbrev pub computed : Action → List ℕ → List ℕ → Option ℕ
computed Sets ks (n ∷ []) = Some n
computed (Divides op) (j ∷ k ∷ []) (m ∷ n ∷ []) = divide_value (divide_of op) j m n
computed action ks ns = None

abbrev pub computed_with : Action → List ℕ → Option (List ℕ) → Option ℕ
computed_with action ks None = None
computed_with action ks (Some ns) = computed action ks ns

-- the value that a statement computes where the variables hold these words
abbrev pub value_in : (ℕ → ℕ) → Env → Stmt → Option ℕ
value_in ws env a =
    computed_with (action_of a) (widths_of ws (args_of a)) (all_of (values_of ws env (args_of a)))

-- ---- places of a run

abbrev pub state_after : Listing → Parts → Entry → ℕ → Going
state_after l p e n = after (blocks_step l (blocks_of l p)) n (start_blocks l (blocks_of l p) e)

-- the run stands in its block between two ops: the statements of the ops behind are left
pub record StandsAt (l : Listing) (p : Parts) (s : Going) (before behind : List ℕ) : Type 0 where
  pub ops : block_at p.graph s.block ≡ before ++ behind
  pub rest : s.rest ≡ body_of l p.graph behind

-- no MULTIEQUAL stands in the block where the run begins: one that does reads nothing, so it has no word
abbrev pub NoneAtEntry : Parts → Type 0
NoneAtEntry p = (x : ℕ) (r : OpRow) → op_at p.graph x ≡ Some r → IsJoin (role_of r.code) → r.block ≡ p.entry.0 → ⊥

-- what the value v holds wherever it is available
pub record Equations (l : Listing) (p : Parts) (e : Entry) (env : Env) (v : ℕ) (r : OpRow) : Type 0 where
  -- an entry value has its word
  pub first : (s : ParamStorage) → role_of r.code ≡ Starts s → env v ≡ Some (word_at l e (bytes_of r.width) s)
  -- a constant, a COPY, a pure op or a division has what it computes from the words of its inputs
  pub equation : (a : Stmt)
      → line_of l v (Some r) ≡ a ∷ []
      → computes (action_of a) ≡ true
      → (n : ℕ) × ((env v ≡ Some n) × (value_in (blocks_of l p).widths env a ≡ Some n))
  -- each value has a word
  pub word : (IsJoin (role_of r.code) → NoneAtEntry p) → 0 < bytes_of r.width → Holds env v

-- At each state of each run the equations of all values hold that are available there.
abbrev pub EquationsHold : Listing → Parts → Type 0
EquationsHold l p =
    (e : Entry) (n : ℕ)
    → let s : Going = state_after l p e n in
    s.local.world.over ≡ None
    → (before behind : List ℕ)
    → StandsAt l p s before behind
    → (v : ℕ) (r : OpRow)
    → op_at p.graph v ≡ Some r
    → Available (outline (form p)) v s.block before
    → Equations l p e s.local.env v r
