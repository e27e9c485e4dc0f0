-- The cuts of a listing's storage as marks of one line: the register space, then the unique space, then the frame. This
-- project's own.
use Rattle.std.specs.Prelude.{◌≡◌, ℕ, suc, ◌+◌, ◌-◌, ◌^◌, ◌<◌, ◌≤◌, nat_lt, if◌then◌else◌, List, [], ◌∷◌, ◌++◌, length, None, ⊤, ℤ, pos, negsuc, ◌+ℤ◌, ◌-ℤ◌, ◌≤ℤ◌}
use Rattle.pcode_model.specs.declared.listing.Listing.{Listing}
use Rattle.pcode_model.specs.declared.storage.ParamStorage.{ParamStorage}
use Rattle.pcode_model.specs.declared.storage.ParamStorage.TheVariants as P
use Rattle.pcode_model.specs.declared.atoms.Atom.{Atom}
use Rattle.pcode_model.specs.declared.frame.Frame.{Frame}
use Rattle.pcode_model.specs.Step.{proto_of}
use Rattle.pcode_model.specs.Atoms.{AreAtoms, Cuts, Range, argument_ranges, kept_ranges}
use Rattle.pcode_model.specs.Limits.{max_atoms}
use Rattle.stackvars.specs.declared.fault.AtomFault.{AtomFault}
use Rattle.stackvars.specs.declared.fault.AtomFault.TheVariants.{TooManyAtoms, Memory}
use Rattle.stackvars.specs.declared.sweep.Mark.{Mark}
use Rattle.stackvars.specs.declared.sweep.Piece.{Piece}

-- ---- the line

-- where the unique space begins: past every end of a register range
abbrev pub uniques : ℕ
uniques = 2 ^ 65

-- where the frame begins: past every end of a unique range
abbrev pub frames : ℕ
frames = 2 ^ 66

-- where the stack pointer's entry word stands: every offset from it, also a negative one, lies in the frame
abbrev pub entry_word : ℕ
entry_word = 2 ^ 66 + 2 ^ 32

abbrev pub from_entry : ℤ → ℕ
from_entry (pos n) = entry_word + n
from_entry (negsuc n) = entry_word - suc n

abbrev pub begin : ParamStorage → ℕ
begin (P.Register o) = o
begin (P.Unique o) = uniques + o
begin (P.Stack o) = from_entry o

abbrev pub mark : ℕ → ℕ → Mark
mark n r = record { position = n; reach = r }

-- both ends of a range cut, and a stretch lies between them
abbrev pub open_marks : Range → List Mark
open_marks a = mark (begin a.storage) (begin a.storage + a.size) ∷ mark (begin a.storage + a.size) 0 ∷ []

abbrev pub opens : List Range → List Mark
opens [] = []
opens (a ∷ rest) = open_marks a ++ opens rest

-- both ends of a range cut
abbrev pub cut_marks : Range → List Mark
cut_marks r = mark (begin r.storage) 0 ∷ mark (begin r.storage + r.size) 0 ∷ []

abbrev pub more_cuts : List Range → List Mark
more_cuts [] = []
more_cuts (r ∷ rest) = cut_marks r ++ more_cuts rest

-- the marks of the ranges that are accessed, of the function's arguments and of what any prototype keeps
abbrev pub marks : Listing → List Range → List Mark
marks l accessed = (opens accessed ++ more_cuts (argument_ranges (proto_of l None).args)) ++ more_cuts (kept_ranges l.protos)

-- ---- from the line back to storage

abbrev pub storage_at : ℕ → ParamStorage
storage_at n =
    if nat_lt n uniques then P.Register n else
    (if nat_lt n frames then P.Unique (n - uniques) else P.Stack (pos n -ℤ pos entry_word))

-- a piece of one area
pub record Fits (p : Piece) : Type 0 where
  pub some : p.begin < p.end
  pub narrow : p.end < p.begin + 2 ^ 32
  pub register : p.begin < uniques → p.begin < 2 ^ 64
  pub unique : p.begin < frames → p.begin < uniques + 2 ^ 64
  pub frame : frames ≤ p.begin → (entry_word - 2 ^ 31 ≤ p.begin) × (p.begin < entry_word + 2 ^ 31)

abbrev pub atom : Piece → Atom
atom p = record { storage = storage_at p.begin; size = p.end - p.begin }

abbrev pub atoms_of : List Piece → List Atom
atoms_of [] = []
atoms_of (p ∷ rest) = atom p ∷ atoms_of rest

-- ---- what is known of the ranges

-- Off the frame it ends in a space of 64 bits, and its size has 32. In the frame both ends are offsets of 32 bits.
abbrev pub IsInReach : ParamStorage → ℕ → Type 0
IsInReach (P.Register o) k = (o + k ≤ 2 ^ 64) × (k < 2 ^ 32)
IsInReach (P.Unique o) k = (o + k ≤ 2 ^ 64) × (k < 2 ^ 32)
IsInReach (P.Stack o) k = (pos 0 ≤ℤ (o +ℤ pos (2 ^ 31))) × (((o +ℤ pos k) ≤ℤ pos (2 ^ 31)) × (k < 2 ^ 32))

-- so does each range whose ends cut
abbrev pub AreInReach : Listing → Frame → Type 0
AreInReach l f = (r : Range) → Cuts l [] f r → IsInReach r.storage r.size

-- ---- why there are none

-- the count, or want of memory
abbrev pub Counts : ℕ → AtomFault → Type 0
Counts count (TooManyAtoms n) = n ≡ count
Counts count Memory = ⊤

-- there are so many atoms, those of the frame among them
abbrev pub HasSoMany : Listing → Frame → ℕ → Type 0
HasSoMany l f n = (atoms : List Atom) × (AreAtoms l [] f atoms × (length atoms ≡ n))

-- there are more than 1,024 atoms, which are counted, or memory ran out
abbrev pub IsCause : Listing → Frame → AtomFault → Type 0
IsCause l f (TooManyAtoms n) = HasSoMany l f n × (max_atoms < n)
IsCause l f Memory = ⊤
