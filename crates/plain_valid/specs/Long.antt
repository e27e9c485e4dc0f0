-- The numbers that have to have 64 bits, so that a C text has them. This project's own.
use Rattle.std.specs.Prelude.{◌-◌, ◌^◌, ◌<◌, List, [], ◌∷◌, IsSome, pos, negsuc, ◌+ℤ◌, ◌≤ℤ◌, ◌<ℤ◌}
use Rattle.pcode_model.specs.declared.storage.ParamStorage.{ParamStorage}
use Rattle.pcode_model.specs.declared.storage.ParamStorage.TheVariants as P
use Rattle.pcode_model.specs.declared.atoms.Atom.{Atom}
use Rattle.pcode_model.specs.declared.frame.FrameAccess.{FrameAccess}
use Rattle.pcode_model.specs.declared.listing.Listing.{Listing}
use Rattle.pcode_model.specs.declared.listing.Place.{Place}
use Rattle.pcode_model.specs.declared.listing.Varnode.{Varnode}
use Rattle.pcode_model.specs.declared.opcode.Opcode.{Opcode}
use Rattle.pcode_model.specs.declared.opcode.Opcode.TheVariants as O
use Rattle.pcode_model.specs.declared.tables.TableAt.{TableAt}
use Rattle.pcode_model.specs.Flow.{Reached}
use Rattle.pcode_model.specs.Places.{Standing, Nothing, Passes, Does, standing}
use Rattle.pcode_model.specs.Step.{varnode_at}

-- ---- where atoms begin that can stand as parameters

-- at a number of 64 bits of the register space or the unique space, or at an offset of 32 bits of a stack
abbrev pub IsLong : Listing → ParamStorage → Type 0
IsLong l (P.Register o) = o < 2 ^ 64
IsLong l (P.Unique o) = o < 2 ^ 64
IsLong l (P.Stack o) = ((negsuc (2 ^ 31 - 1) ≤ℤ o) × (o <ℤ pos (2 ^ 31))) × IsSome l.stack

abbrev pub AreLong : Listing → List Atom → Type 0
AreLong l [] = Unit {0}
AreLong l (a ∷ rest) = IsLong l a.storage × AreLong l rest

-- an access of the frame whose ends are such offsets
pub record IsLongAccess (l : Listing) (a : FrameAccess) : Type 0 where
  pub begins : negsuc (2 ^ 31 - 1) ≤ℤ a.offset
  pub ends : (a.offset +ℤ pos a.size) ≤ℤ pos (2 ^ 31)
  pub stack : IsSome l.stack

-- ---- what calls name

-- the address that a CALL calls, and the index of a CALLOTHER
abbrev pub NamesLong : Opcode → List Varnode → Type 0
NamesLong O.Call vs = (varnode_at vs 0).offset < 2 ^ 64
NamesLong O.CallOther vs = (varnode_at vs 0).offset < 2 ^ 64
NamesLong code vs = Unit {0}

abbrev pub StandsLong : Standing → Type 0
StandsLong Nothing = Unit {0}
StandsLong (Passes i) = Unit {0}
StandsLong (Does i op) = NamesLong op.code op.inputs

-- ---- all of them

-- What is asked of the numbers of a listing with these atoms.
-- storages: where the atoms begin.
-- places: what the op at a reached place names.
pub record HasLong (l : Listing) (t : List TableAt) (atoms : List Atom) : Type 0 where
  pub storages : AreLong l atoms
  pub places : (p : Place) → Reached l t p → StandsLong (standing l p)
