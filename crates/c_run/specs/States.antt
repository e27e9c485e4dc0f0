-- The states of a run as the definitions have them. This project's own.
use Rattle.std.specs.Prelude.{◌≡◌, ℕ, ◌%◌, ◌≤◌, List, [], ◌∷◌, map, length, Option, Some, None}
use Rattle.bits_core.specs.declared.word.Word.{Word}
use Rattle.pcode_model.specs.declared.listing.Listing.{Listing}
use Rattle.pcode_model.specs.Memory.{or_else}
use Rattle.pcode_model.specs.Spaces.{first_ram, register_space, size_of, unique_space}
use Rattle.pcode_model.specs.Step.{stack0}
use Rattle.pcode_model.specs.WellFormed.{IsWellFormed}
use Rattle.pcode_model.specs.World as W
use Rattle.cmeaning.specs.Do as D
use Rattle.cmeaning.specs.Step.{CState}
use Rattle.cvalue.specs.Held.{env_of}
use Rattle.run_world.specs.declared.entry.Answer.{Answer}
use Rattle.run_world.specs.declared.offset_map.OffsetMap.{OffsetMap}
use Rattle.run_world.specs.Log.{world_of}
use Rattle.run_world.specs.Maps.{at_offset, bytes_of}
use Rattle.run_world.specs.Meaning.{value_of}
use Rattle.run_world.specs.Setting.{HasShape, IsSetting}
use Rattle.c_run.specs.declared.context.CContext.{CContext}
use Rattle.c_run.specs.declared.local.Local.{Local}
use Rattle.c_run.specs.declared.start.Origin.{Origin}

-- the register bytes of an answer, 0 where the map has none
abbrev pub left_of : OffsetMap → ℕ → ℕ
left_of m o = or_else (at_offset m o) 0

-- the state, but for its place, where the entry has these answers
abbrev pub local_of : List Answer → Local → D.Local
local_of answers x =
    record
    { env = env_of x.variables.words.items; left = left_of x.left; world = world_of (bytes_of x.memory) answers x.log }

abbrev pub state_of : List Answer → Local → ℕ → CState
state_of answers x position = record { position = position; local = local_of answers x }

-- The state after a change is this one, of the same function.
pub record Becomes (answers : List Answer) (old new : Local) (x : D.Local) : Type 0 where
  pub means : local_of answers new ≡ x
  pub function : new.variables.f.now ≡ old.variables.f.now

-- likewise with the place
pub record Goes (answers : List Answer) (old new : Local) (position : ℕ) (x : CState) : Type 0 where
  pub means : state_of answers new position ≡ x
  pub function : new.variables.f.now ≡ old.variables.f.now

-- what stays the same during a run is of one listing, which is well formed
pub record IsContext (c : CContext) : Type 0 where
  pub formed : IsWellFormed c.listing.now
  pub few : length c.listing.now.spaces ≤ 256
  pub setting : IsSetting c.listing.now c.setting
  pub ram : HasShape c.listing.now (first_ram c.listing.now) c.ram
  pub registers : HasShape c.listing.now (register_space c.listing.now) c.registers
  pub uniques : HasShape c.listing.now (unique_space c.listing.now) c.uniques

-- ---- operands

-- the values, if each has one
abbrev pub before : Option ℕ → Option (List ℕ) → Option (List ℕ)
before None rest = None
before (Some n) None = None
before (Some n) (Some ns) = Some (n ∷ ns)

abbrev pub all_of : List (Option ℕ) → Option (List ℕ)
all_of [] = Some []
all_of (a ∷ rest) = before a (all_of rest)

abbrev pub numbers_in : Option (List Word) → Option (List ℕ)
numbers_in None = None
numbers_in (Some ws) = Some (map value_of ws)

-- ---- the start

-- the entry whose bytes and hidden bytes these are, without answers
abbrev pub entry_at : Origin → W.Entry
entry_at x = record { bytes = bytes_of x.memory; hidden = at_offset x.hidden; answers = [] }

pub record IsOrigin (l : Listing) (x : Origin) : Type 0 where
  pub stack : x.stack ≡ stack0 l (entry_at x) % size_of l (first_ram l)
