-- What the frame of a listing says of its runs, and which frame is a listing's. This project's own.
use Rattle.std.specs.Prelude.{◌≡◌, ℕ, suc, ◌+◌, ◌-◌, ◌%◌, ◌==◌, ◌&&◌, nat_lt, Bool, false, if◌then◌else◌, List, [], ◌∷◌, Option, Some, None, ℤ, pos, negsuc}
use Rattle.pcode_model.specs.declared.listing.Listing.{Listing}
use Rattle.pcode_model.specs.declared.listing.Place.{Place}
use Rattle.pcode_model.specs.declared.frame.Frame.{Frame}
use Rattle.pcode_model.specs.declared.frame.FrameAccess.{FrameAccess}
use Rattle.pcode_model.specs.declared.frame.FrameVariable.{FrameVariable}
use Rattle.pcode_model.specs.Memory as M
use Rattle.pcode_model.specs.Spaces.{first_ram, or, size_of}

-- an offset from the stack pointer's entry word, as a number below the size of the space
abbrev pub wrapped : ℕ → ℤ → ℕ
wrapped size (pos n) = n % size
wrapped size (negsuc n) = size - suc (n % size)

-- the offset of the access at a place with a number, where it is one
abbrev pub own_in : ℕ → List FrameAccess → Place → ℕ → Option ℕ
own_in size [] p n = None
own_in size (a ∷ rest) p n = if a.place.address == p.address && (a.place.index == p.index && a.argument == n) then Some (wrapped size a.offset) else own_in size rest p n

-- The byte at an offset is one of a variable: it stands less than the variable's size above its first byte, where offsets
-- go on at 0 past the last one of the space. So a variable may have bytes on both sides of the entry word.
abbrev pub is_byte_of : ℕ → FrameVariable → ℕ → Bool
is_byte_of size v c = nat_lt ((c + size - wrapped size v.offset) % size) v.size

abbrev pub framed_in : ℕ → List FrameVariable → ℕ → Bool
framed_in size [] c = false
framed_in size (v ∷ rest) c = or (is_byte_of size v c) (framed_in size rest c)

-- what a frame says of the runs of a listing
abbrev pub frame_of : Listing → Frame → M.Frame
frame_of l f = record { own = own_in (size_of l (first_ram l)) f.accesses; framed = framed_in (size_of l (first_ram l)) f.variables }

abbrev pub no_variables : Frame
no_variables = record { facts = []; escapes = []; accesses = []; variables = [] }

-- The frame that is a listing's. Stack variables aren't recovered yet, so that a listing with a `stack` line has none.
pub data IsFrameOf (l : Listing) (f : Frame) : Type 0 where
  NoStackPointer : l.stack ≡ None → f ≡ no_variables → IsFrameOf l f
