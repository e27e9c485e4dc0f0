-- The run of a code of blocks: one step carries out one statement, or leaves a block. Its statements do what they do in
-- a C function. This project's own.
use Rattle.std.specs.Prelude.{ℕ, suc, ◌==◌, Bool, true, false, if◌then◌else◌, List, [], ◌∷◌, drop, slice_get, Option, Some, None}
use Rattle.machine.specs.Trace.{Returned, BadTarget, Undefined, Trace}
use Rattle.machine.specs.Machine.{Machine, seen}
use Rattle.pcode_model.specs.declared.storage.ParamStorage.{ParamStorage}
use Rattle.pcode_model.specs.declared.listing.Listing.{Listing}
use Rattle.pcode_model.specs.World.{Entry, first_world, shown, unless_over}
use Rattle.cmeaning.specs.declared.tree.Stmt.{Stmt}
use Rattle.cmeaning.specs.Value.{value_of}
use Rattle.cmeaning.specs.Do.{Local, ends, do_simple}
use Rattle.cmeaning.specs.Step.{tested, word_at}
use Rattle.blockcode.specs.declared.code.Variable.{Variable}
use Rattle.blockcode.specs.declared.code.Arm.{Arm}
use Rattle.blockcode.specs.declared.code.Exit.{Exit}
use Rattle.blockcode.specs.declared.code.Exit.TheVariants.{Return, Jump, Test, Switch, Stop}
use Rattle.blockcode.specs.declared.code.Block.{Block}
use Rattle.blockcode.specs.declared.code.Code.{Code}

-- the block and the number of statements of it that were carried out, and the variables and the world
pub record CodeState : Type 0 where
  pub block : ℕ
  pub position : ℕ
  pub local : Local

abbrev pub at : ℕ → ℕ → Local → CodeState
at b p x = record { block = b; position = p; local = x }

-- ---- variables

abbrev pub width_in : Option Variable → ℕ
width_in None = 0
width_in (Some v) = v.width.bytes

-- a variable's width in bytes by its number
abbrev pub widths : List Variable → ℕ → ℕ
widths vs n = width_in (slice_get vs n)

abbrev pub word_in : Listing → Entry → ℕ → Option ParamStorage → Option ℕ
word_in l e k None = None
word_in l e k (Some s) = Some (word_at l e k s)

abbrev pub first_word : Listing → Entry → Option Variable → Option ℕ
first_word l e None = None
first_word l e (Some v) = word_in l e v.width.bytes v.storage

-- each parameter holds the entry's word at its storage, and no other variable is assigned
abbrev pub first_local : Listing → List Variable → Entry → Local
first_local l vs e = record { env = λ n. first_word l e (slice_get vs n); left = λ o. 0; world = first_world e.bytes e }

-- ---- a step

-- Whether a call returns, by the statements behind it in its block and by the block's exit: not where it is the last one
-- and the exit is Stop.
abbrev pub call_returns : List Stmt → Exit → Bool
call_returns [] Stop = false
call_returns rest e = true

abbrev pub undefined : CodeState → CodeState
undefined s = at s.block s.position (ends Undefined s.local)

-- to the beginning of a block
abbrev pub enters : ℕ → CodeState → CodeState
enters b s = at b 0 s.local

abbrev pub enters_by : Option ℕ → CodeState → (ℕ → CodeState) → CodeState
enters_by None s next = undefined s
enters_by (Some n) s next = next n

abbrev pub returns_with : Option ℕ → CodeState → CodeState
returns_with None s = undefined s
returns_with (Some n) s = at s.block s.position (ends (Returned (Some n)) s.local)

-- to the first arm with the value; where there is none the run ends
abbrev pub chosen : List Arm → CodeState → ℕ → CodeState
chosen [] s n = at s.block s.position (ends BadTarget s.local)
chosen (a ∷ rest) s n = if a.value == n then enters a.to s else chosen rest s n

-- by the widths of the variables
abbrev pub leave : (ℕ → ℕ) → Exit → CodeState → CodeState
leave ws (Return None) s = at s.block s.position (ends (Returned None) s.local)
leave ws (Return (Some e)) s = returns_with (value_of ws s.local.env e) s
leave ws (Jump b) s = enters b s
leave ws (Test e taken other) s = enters_by (value_of ws s.local.env e) s (λ n. enters (tested taken other n) s)
leave ws (Switch e arms) s = enters_by (value_of ws s.local.env e) s (chosen arms s)
leave ws Stop s = undefined s

-- the first of the statements that are left, or the exit where none is
abbrev pub pass : Listing → (ℕ → ℕ) → List Stmt → Exit → CodeState → CodeState
pass l ws [] e s = leave ws e s
pass l ws (x ∷ rest) e s = at s.block (suc s.position) (do_simple l ws (λ a. call_returns rest e) x s.local)

abbrev pub pass_in : Listing → (ℕ → ℕ) → Option Block → CodeState → CodeState
pass_in l ws None s = undefined s
pass_in l ws (Some b) s = pass l ws (drop s.position b.body) b.exit s

-- After an end nothing changes.
abbrev pub code_step : Listing → Code → CodeState → CodeState
code_step l k s = unless_over s.local.world.over s (pass_in l (widths k.variables) (slice_get k.blocks s.block) s)

abbrev pub code_machine : Listing → Code → Machine CodeState
code_machine l k = record { step = code_step l k; sight = λ s. shown s.local.world }

abbrev pub start_code : Listing → Code → Entry → CodeState
start_code l k e = at k.entry 0 (first_local l k.variables e)

-- what the code has shown after n steps
abbrev pub seen_code : Listing → Code → Entry → ℕ → Trace
seen_code l k e n = seen (code_machine l k) (start_code l k e) n
