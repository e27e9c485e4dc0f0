-- What can be done to memory, and what it does in each of the three runs. This project's own.
use Rattle.std.specs.Prelude.{ℕ, ◌+◌, ◌-◌, ◌==◌, ◌&&◌, nat_le, Bool, true, false, if◌then◌else◌, List, length, Option, Some, None, Result, Ok, Err}
use Rattle.machine.specs.Trace.{End, Outside, ReadOnlyWrite}
use Rattle.pcode_model.specs.declared.listing.Place.{Place}
use Rattle.pcode_model.specs.declared.listing.Listing.{Listing}
use Rattle.pcode_model.specs.Spaces.{size_of, first_ram, bytes_at, any_at, or, put, put_in, each_at, is_fixed, is_some}

-- a byte that an answer writes
pub record ByteWrite : Type 0 where
  pub space : ℕ
  pub offset : ℕ
  pub value : ℕ

-- a byte of the first ram space that an answer hides
pub record HiddenWrite : Type 0 where
  pub offset : ℕ
  pub value : ℕ

-- What a run does to its memory, whichever memory that is.
-- read, write: a pointer access or a direct ram varnode, at a byte address of a space.
-- read_own, write_own: an access of a frame variable, in the first ram space, by its address and by its offset from the
-- stack pointer's entry word.
-- answer, hide: one byte that a callee's answer writes or hides.
pub record Acts (M : Type 0) : Type 0 where
  pub read : (space address count : ℕ) → M → Result (List ℕ) End
  pub write : (space address : ℕ) → List ℕ → M → Result M End
  pub read_own : (address offset count : ℕ) → M → Result (List ℕ) End
  pub write_own : (address offset : ℕ) → List ℕ → M → M
  pub answer : ByteWrite → M → Result M End
  pub hide : HiddenWrite → M → M

-- The value, unless a test says that the run ends here.
abbrev pub unless : {A : Type 0} → Bool → End → Result A End → Result A End
unless true e x = Err e
unless false e x = x

-- whether one of so many bytes from an address on is read-only
abbrev pub any_fixed : Listing → (space address count : ℕ) → Bool
any_fixed l s a k = any_at (size_of l s) (is_fixed l s) a k

-- ---- frame variables

-- Which accesses are those of frame variables, and which bytes are theirs.
-- own: the access of the LOAD or STORE at a place (number 0), or of the argument of that number of the call there, by
-- its offset from the stack pointer's entry word.
-- framed: whether the byte at an offset from that word is one of a frame variable.
pub record Frame : Type 0 where
  pub own : Place → ℕ → Option ℕ
  pub framed : ℕ → Bool

-- the frame of a listing without a stack pointer
abbrev pub no_frame : Frame
no_frame = record { own = λ p n. None; framed = λ c. false }

-- what the memory of one run is laid out by: the listing, its frame, and the stack pointer's entry word
pub record Layout : Type 0 where
  pub listing : Listing
  pub frame : Frame
  pub stack0 : ℕ

-- an address of the first ram space as an offset from the stack pointer's entry word
abbrev pub offset_from : ℕ → ℕ → ℕ → ℕ
offset_from size stack0 a = if nat_le stack0 a then a - stack0 else a + size - stack0

-- whether the byte at an address of a space is one of a frame variable
abbrev pub is_framed : Layout → ℕ → ℕ → Bool
is_framed y s a = s == first_ram y.listing && y.frame.framed (offset_from (size_of y.listing s) y.stack0 a)

-- ---- the memory of the C run: bytes alone

abbrev pub Bytes : Type 0
Bytes = ℕ → ℕ → ℕ

abbrev pub poke : ℕ → ℕ → ℕ → Bytes → Bytes
poke s a b m = put_in s a b m

-- An answer's hidden bytes are passed over.
abbrev pub plain : Listing → Acts Bytes
plain l = record {
  read = λ s a k m. Ok (bytes_at (size_of l s) (m s) a k);
  write = λ s a bs m. unless (any_fixed l s a (length bs)) ReadOnlyWrite (Ok (each_at (size_of l s) (poke s) a bs m));
  read_own = λ a c k m. Ok (bytes_at (size_of l (first_ram l)) (m (first_ram l)) a k);
  write_own = λ a c bs m. each_at (size_of l (first_ram l)) (poke (first_ram l)) a bs m;
  answer = λ x m. unless (is_fixed l x.space x.offset) ReadOnlyWrite (Ok (poke x.space x.offset x.value m));
  hide = λ x m. m;
}

-- ---- the memory of the p-code run: bytes, hidden bytes of the first ram space, and spoiled ones

pub record Whole : Type 0 where
  pub bytes : Bytes
  pub hidden : ℕ → Option ℕ
  pub spoiled : ℕ → Bool

abbrev pub or_else : Option ℕ → ℕ → ℕ
or_else None n = n
or_else (Some b) n = b

-- what an access of a frame variable finds at an address: the hidden byte, or the memory's where none is hidden
abbrev pub found : Listing → Whole → ℕ → ℕ
found l w a = or_else (w.hidden a) (w.bytes (first_ram l) a)

abbrev pub is_hidden : Listing → Whole → ℕ → ℕ → Bool
is_hidden l w s a = s == first_ram l && is_some (w.hidden a)

-- a byte that is written is hidden no longer
abbrev pub unhidden : Listing → ℕ → ℕ → (ℕ → Option ℕ) → ℕ → Option ℕ
unhidden l s a hidden = if s == first_ram l then put hidden a None else hidden

abbrev pub poke_whole : Listing → ℕ → ℕ → ℕ → Whole → Whole
poke_whole l s a b w = record { bytes = poke s a b w.bytes; hidden = unhidden l s a w.hidden; spoiled = w.spoiled }

-- an access of a frame variable that writes hides its bytes, spoiled no longer, and leaves the memory
abbrev pub tuck : ℕ → ℕ → Whole → Whole
tuck a b w = record { bytes = w.bytes; hidden = put w.hidden a (Some b); spoiled = put w.spoiled a false }

-- a byte that an answer hides; one of a frame variable is spoiled from then on
abbrev pub conceal : Layout → ℕ → ℕ → Whole → Whole
conceal y a b w = record { bytes = w.bytes; hidden = put w.hidden a (Some b); spoiled = put w.spoiled a (or (is_framed y (first_ram y.listing) a) (w.spoiled a)) }

-- ---- the acts of the p-code run, one test a line, in the order in which they count: at one access, and at one byte that
-- an answer writes, Outside goes before ReadOnlyWrite

abbrev pub any_framed : Layout → (space address count : ℕ) → Bool
any_framed y s a k = any_at (size_of y.listing s) (is_framed y s) a k

abbrev pub any_hidden : Listing → Whole → (space address count : ℕ) → Bool
any_hidden l w s a k = any_at (size_of l s) (is_hidden l w s) a k

abbrev pub any_spoiled : Listing → Whole → (address count : ℕ) → Bool
any_spoiled l w a k = any_at (size_of l (first_ram l)) w.spoiled a k

-- A pointer access or a direct ram varnode doesn't meet a byte of a frame variable, and doesn't read a hidden byte.
abbrev pub read_whole : Layout → (space address count : ℕ) → Whole → Result (List ℕ) End
read_whole y s a k w = unless (any_framed y s a k) Outside
    (unless (any_hidden y.listing w s a k) Outside
    (Ok (bytes_at (size_of y.listing s) (w.bytes s) a k)))

-- It writes no read-only byte. What it writes is hidden no longer.
abbrev pub write_whole : Layout → (space address : ℕ) → List ℕ → Whole → Result Whole End
write_whole y s a bs w = unless (any_framed y s a (length bs)) Outside
    (unless (any_fixed y.listing s a (length bs)) ReadOnlyWrite
    (Ok (each_at (size_of y.listing s) (poke_whole y.listing s) a bs w)))

-- An access of a frame variable doesn't read a spoiled byte.
abbrev pub read_own_whole : Layout → (address count : ℕ) → Whole → Result (List ℕ) End
read_own_whole y a k w = unless (any_spoiled y.listing w a k) Outside
    (Ok (bytes_at (size_of y.listing (first_ram y.listing)) (found y.listing w) a k))

abbrev pub write_own_whole : Layout → (address : ℕ) → List ℕ → Whole → Whole
write_own_whole y a bs w = each_at (size_of y.listing (first_ram y.listing)) tuck a bs w

-- A byte that an answer writes is none of a frame variable, and isn't read-only.
abbrev pub answer_whole : Layout → ByteWrite → Whole → Result Whole End
answer_whole y x w = unless (is_framed y x.space x.offset) Outside
    (unless (is_fixed y.listing x.space x.offset) ReadOnlyWrite
    (Ok (poke_whole y.listing x.space x.offset x.value w)))

abbrev pub whole : Layout → Acts Whole
whole y = record {
  read = read_whole y;
  write = write_whole y;
  read_own = λ a c. read_own_whole y a;
  write_own = λ a c. write_own_whole y a;
  answer = answer_whole y;
  hide = λ x. conceal y x.offset x.value;
}

-- ---- the memory of the frame run: bytes, and the frame variables' own bytes by offset from the stack pointer's entry word

pub record Apart : Type 0 where
  pub bytes : Bytes
  pub own : ℕ → ℕ

abbrev pub poke_apart : ℕ → ℕ → ℕ → Apart → Apart
poke_apart s a b w = record { bytes = poke s a b w.bytes; own = w.own }

abbrev pub keep_own : ℕ → ℕ → Apart → Apart
keep_own c b w = record { bytes = w.bytes; own = put w.own c b }

-- Hidden bytes aren't looked at, and nothing is Outside.
abbrev pub apart : Listing → Acts Apart
apart l = record {
  read = λ s a k w. Ok (bytes_at (size_of l s) (w.bytes s) a k);
  write = λ s a bs w. unless (any_fixed l s a (length bs)) ReadOnlyWrite (Ok (each_at (size_of l s) (poke_apart s) a bs w));
  read_own = λ a c k w. Ok (bytes_at (size_of l (first_ram l)) w.own c k);
  write_own = λ a c bs w. each_at (size_of l (first_ram l)) keep_own c bs w;
  answer = λ x w. unless (is_fixed l x.space x.offset) ReadOnlyWrite (Ok (poke_apart x.space x.offset x.value w));
  hide = λ x w. w;
}
