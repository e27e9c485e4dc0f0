-- The ranges of the register space, the unique space and the frame that reached ops access, and the atoms: the coarsest
-- ranges such that each access is a whole number of them. This project's own.
use Rattle.std.specs.Prelude.{◌≡◌, ℕ, ◌+◌, ◌<◌, ◌≤◌, List, [], ◌∷◌, ◌++◌, Option, Some, None, ◌⊎◌, ◌↔◌, ℤ, pos, ◌+ℤ◌, ◌<ℤ◌}
use Rattle.pcode_model.specs.declared.listing.Op.{Op}
use Rattle.pcode_model.specs.declared.listing.Place.{Place}
use Rattle.pcode_model.specs.declared.listing.Varnode.{Varnode}
use Rattle.pcode_model.specs.declared.listing.Storage.{Storage}
use Rattle.pcode_model.specs.declared.listing.Storage.TheVariants.{At, Stack}
use Rattle.pcode_model.specs.declared.listing.Proto.{Proto}
use Rattle.pcode_model.specs.declared.listing.Listing.{Listing}
use Rattle.pcode_model.specs.declared.opcode.Opcode.{Opcode}
use Rattle.pcode_model.specs.declared.opcode.Opcode.TheVariants as O
use Rattle.pcode_model.specs.declared.storage.ParamStorage.{ParamStorage}
use Rattle.pcode_model.specs.declared.storage.ParamStorage.TheVariants as P
use Rattle.pcode_model.specs.declared.tables.Table.{Table}
use Rattle.pcode_model.specs.declared.tables.TableAt.{TableAt}
use Rattle.pcode_model.specs.declared.atoms.Atom.{Atom}
use Rattle.pcode_model.specs.declared.frame.Frame.{Frame}
use Rattle.pcode_model.specs.declared.frame.FrameAccess.{FrameAccess}
use Rattle.pcode_model.specs.Spaces.{register_space, unique_space}
use Rattle.pcode_model.specs.Places.{Standing, Nothing, Passes, Does, standing}
use Rattle.pcode_model.specs.Step.{Operand, Reads, ReadsStack, operands, callee_at, proto_of, varnode_at}
use Rattle.pcode_model.specs.Flow.{IsIn, Reached, table_in}

-- ---- accesses

abbrev pub one_range : Option Varnode → List Varnode
one_range None = []
one_range (Some v) = v ∷ []

abbrev pub ranges_read : List Operand → List Varnode
ranges_read [] = []
ranges_read (Reads v ∷ rest) = v ∷ ranges_read rest
ranges_read (ReadsStack number offset size ∷ rest) = ranges_read rest

abbrev pub table_range : Option Table → List Varnode
table_range None = []
table_range (Some t) = t.value ∷ []

-- besides operands and output: at a call its result's range and the stack pointer, also where it doesn't return, at a
-- RETURN the function's result, and at a BRANCHIND the range of its table's word
abbrev pub further_ranges : Listing → Option Table → Opcode → List Varnode → List Varnode
further_ranges l t O.Call vs = one_range (proto_of l (callee_at l (varnode_at vs 0).offset)).gives ++ one_range l.stack
further_ranges l t O.CallInd vs = one_range (proto_of l None).gives ++ one_range l.stack
further_ranges l t O.Return vs = one_range (proto_of l None).gives
further_ranges l t O.BranchInd vs = table_range t
further_ranges l t code vs = []

abbrev pub op_ranges : Listing → Option Table → Op → List Varnode
op_ranges l t op = ranges_read (operands l op.code op.inputs) ++ (one_range op.out ++ further_ranges l t op.code op.inputs)

abbrev pub ranges_in : Listing → Option Table → Standing → List Varnode
ranges_in l t Nothing = []
ranges_in l t (Passes i) = []
ranges_in l t (Does i op) = op_ranges l t op

-- the ranges of any space that are accessed at a place
abbrev pub ranges_at : Listing → List TableAt → Place → List Varnode
ranges_at l t p = ranges_in l (table_in t p) (standing l p)

-- the register space or the unique space
abbrev pub IsLocal : Listing → ℕ → Type 0
IsLocal l s = (s ≡ register_space l) ⊎ (s ≡ unique_space l)

-- a register or unique range that is accessed at a reached place
pub record Accesses (l : Listing) (t : List TableAt) (v : Varnode) : Type 0 where
  pub at : Place
  pub reached : Reached l t at
  pub range : IsIn v (ranges_at l t at)
  pub is_local : IsLocal l v.space

-- ---- atoms: ranges of storage, in one of three areas

-- where a storage is: the register space, the unique space, or the frame
pub data Area : Type 0 where
  Registers : Area
  Uniques : Area
  Stacked : Area

abbrev pub area_of : ParamStorage → Area
area_of (P.Register o) = Registers
area_of (P.Unique o) = Uniques
area_of (P.Stack o) = Stacked

-- an offset in its space, or from the stack pointer's entry word
abbrev pub offset_of : ParamStorage → ℤ
offset_of (P.Register o) = pos o
offset_of (P.Unique o) = pos o
offset_of (P.Stack o) = o

-- so many bytes of storage
abbrev pub Range : Type 0
Range = Atom

abbrev pub range : ParamStorage → ℕ → Range
range s k = record { storage = s; size = k }

abbrev pub varnode : ℕ → ℕ → ℕ → Varnode
varnode s o k = record { space = s; offset = o; size = k }

-- an access of a frame variable
abbrev pub IsFrameAccess : Frame → ℤ → ℕ → Type 0
IsFrameAccess f o k = (a : FrameAccess) × (IsIn a f.accesses × ((a.offset ≡ o) × (a.size ≡ k)))

-- this range is accessed at a reached place
abbrev pub IsAccessed : Listing → List TableAt → Frame → Range → Type 0
IsAccessed l t f r = accessed r.storage r.size where
  accessed : ParamStorage → ℕ → Type 0
  accessed (P.Register o) k = Accesses l t (varnode (register_space l) o k)
  accessed (P.Unique o) k = Accesses l t (varnode (unique_space l) o k)
  accessed (P.Stack o) k = IsFrameAccess f o k

-- the storage of an argument of the function: on the stack it is so far above the stack pointer's entry word
abbrev pub argument_range : Storage → Range
argument_range (At v) = range (P.Register v.offset) v.size
argument_range (Stack offset size) = range (P.Stack (pos offset)) size

abbrev pub argument_ranges : List Storage → List Range
argument_ranges [] = []
argument_ranges (a ∷ rest) = argument_range a ∷ argument_ranges rest

abbrev pub registers_at : List Varnode → List Range
registers_at [] = []
registers_at (v ∷ rest) = range (P.Register v.offset) v.size ∷ registers_at rest

abbrev pub kept_ranges : List Proto → List Range
kept_ranges [] = []
kept_ranges (p ∷ rest) = registers_at p.keep ++ kept_ranges rest

-- The ends of these ranges cut: of each access, of the function's argument storages, and of the kept ranges of every
-- prototype, used or not.
abbrev pub Cuts : Listing → List TableAt → Frame → Range → Type 0
Cuts l t f r = IsAccessed l t f r ⊎ (IsIn r (argument_ranges (proto_of l None).args) ⊎ IsIn r (kept_ranges l.protos))

abbrev pub IsEnd : Area → ℤ → Range → Type 0
IsEnd area o r = (area_of r.storage ≡ area) × ((o ≡ offset_of r.storage) ⊎ (o ≡ offset_of r.storage +ℤ pos r.size))

abbrev pub IsCut : Listing → List TableAt → Frame → Area → ℤ → Type 0
IsCut l t f area o = (r : Range) × (Cuts l t f r × IsEnd area o r)

-- the bytes of the one are bytes of the other
abbrev pub LiesIn : Range → Range → Type 0
LiesIn a b = (area_of a.storage ≡ area_of b.storage) × ((d : ℕ) × ((offset_of a.storage ≡ offset_of b.storage +ℤ pos d) × (d + a.size ≤ b.size)))

-- A range that lies in an access, from one cut to the next one.
pub record IsAtom (l : Listing) (t : List TableAt) (f : Frame) (a : Atom) : Type 0 where
  pub some : 0 < a.size
  pub begins : IsCut l t f (area_of a.storage) (offset_of a.storage)
  pub ends : IsCut l t f (area_of a.storage) (offset_of a.storage +ℤ pos a.size)
  pub whole : (d : ℕ) → 0 < d → d < a.size → IsCut l t f (area_of a.storage) (offset_of a.storage +ℤ pos d) → ⊥
  pub access : Range
  pub accessed : IsAccessed l t f access
  pub inside : LiesIn a access

-- register ranges before unique ones, and these before those of the frame, each by rising offset
abbrev pub StandsBefore : ParamStorage → ParamStorage → Type 0
StandsBefore (P.Register m) (P.Register n) = m < n
StandsBefore (P.Register m) (P.Unique n) = Unit {0}
StandsBefore (P.Register m) (P.Stack n) = Unit {0}
StandsBefore (P.Unique m) (P.Register n) = ⊥
StandsBefore (P.Unique m) (P.Unique n) = m < n
StandsBefore (P.Unique m) (P.Stack n) = Unit {0}
StandsBefore (P.Stack m) (P.Register n) = ⊥
StandsBefore (P.Stack m) (P.Unique n) = ⊥
StandsBefore (P.Stack m) (P.Stack n) = m <ℤ n

abbrev pub InOrder : List Atom → Type 0
InOrder [] = Unit {0}
InOrder (a ∷ []) = Unit {0}
InOrder (a ∷ b ∷ rest) = StandsBefore a.storage b.storage × InOrder (b ∷ rest)

-- all atoms of a listing, each once and in their order
pub record AreAtoms (l : Listing) (t : List TableAt) (f : Frame) (atoms : List Atom) : Type 0 where
  pub each : (a : Atom) → IsIn a atoms ↔ IsAtom l t f a
  pub in_order : InOrder atoms
