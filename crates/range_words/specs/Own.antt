-- The bytes of frame variables beside those of registers. A frame variable's range has the number of the first ram space,
-- which no range of the register space or the unique space has. This project's own.
use Rattle.std.specs.Prelude.{◌≡◌, ℕ, ◌+◌, ◌-◌, ◌/◌, ◌==◌, ◌&&◌, nat_lt, if◌then◌else◌, List, Ok}
use Rattle.pcode_model.specs.declared.listing.Varnode.{Varnode}
use Rattle.pcode_model.specs.declared.listing.Listing.{Listing}
use Rattle.pcode_model.specs.Spaces.{bytes_at, each_at, first_ram, put, size_of}
use Rattle.pcode_model.specs.Memory.{Acts, ByteWrite, Bytes, HiddenWrite}

-- ---- where they are

-- half of so many addresses
abbrev pub half : ℕ → ℕ
half size = size / 2

-- An offset from the stack pointer's entry word wraps at 0. It is counted from half the space below that word instead, so
-- that a range across the word doesn't wrap. Twice is once back.
abbrev pub centred : ℕ → ℕ → ℕ
centred size c = if nat_lt c (half size) then c + half size else c - half size

-- how many addresses the stack has
abbrev pub stack_size : Listing → ℕ
stack_size l = size_of l (first_ram l)

-- so many bytes of the frame, at an offset from the stack pointer's entry word
abbrev pub frame_range : Listing → (c k : ℕ) → Varnode
frame_range l c k = record { space = first_ram l; offset = centred (stack_size l) c; size = k }

-- the bytes of registers with those of the frame, which are there at as many offsets as the stack has addresses
abbrev pub with_own : Listing → (ℕ → ℕ) → Bytes → Bytes
with_own l own m s o =
    if s == first_ram l && nat_lt o (stack_size l) then own (centred (stack_size l) o) else m s o

-- ---- what is done to them

-- Accesses of frame variables alone read and write the bytes that are seen as the frame's, by their offsets, and nothing
-- else that is seen of the memory.
pub record HasOwn {M : Type 0} (m : Acts M) (l : Listing) (look : M → Bytes) (own : M → ℕ → ℕ) : Type 0 where
  pub read_own : (a c k : ℕ) (w : M) → m.read_own a c k w ≡ Ok (bytes_at (stack_size l) (own w) c k)
  pub write_own : (a c : ℕ) (bs : List ℕ) (w : M)
      → own (m.write_own a c bs w) ≡ each_at (stack_size l) (λ o b f. put f o b) c bs (own w)
  pub look_own : (a c : ℕ) (bs : List ℕ) (w : M) → look (m.write_own a c bs w) ≡ look w
  pub write : (s a : ℕ) (bs : List ℕ) (w v : M) → m.write s a bs w ≡ Ok v → own v ≡ own w
  pub answer : (x : ByteWrite) (w v : M) → m.answer x w ≡ Ok v → own v ≡ own w
  pub hide : (x : HiddenWrite) (w : M) → own (m.hide x w) ≡ own w
