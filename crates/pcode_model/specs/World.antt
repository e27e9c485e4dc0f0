-- The world that all runs of a listing share, its few effects, and what a run begins with. This project's own.
use Rattle.std.specs.Prelude.{◌≡◌, ℕ, ◌+◌, ◌<◌, List, [], ◌∷◌, ◌++◌, Option, Some, None, Result, Ok, Err}
use Rattle.machine.specs.Trace.{Event, Store, End, NoAnswer, Trace}
use Rattle.pcode_model.specs.declared.listing.SpaceKind.TheVariants.{Ram}
use Rattle.pcode_model.specs.declared.listing.Listing.{Listing}
use Rattle.pcode_model.specs.Spaces.{size_of, kind_of, first_ram, fixed_byte}
use Rattle.pcode_model.specs.Memory.{ByteWrite, HiddenWrite, Acts, Bytes}

-- What a callee does, as far as a run sees it: its result word, the bytes of the register space after it, the bytes of
-- ram spaces that it writes, in order, and the bytes of the first ram space that it hides, in order.
pub record Answer : Type 0 where
  pub word : ℕ
  pub registers : ℕ → ℕ
  pub memory : List ByteWrite
  pub hidden : List HiddenWrite

-- What a run begins with: the bytes of every space by offset, the hidden bytes of the first ram space, and the answers
-- that its calls will take.
pub record Entry : Type 0 where
  pub bytes : Bytes
  pub hidden : ℕ → Option ℕ
  pub answers : List Answer

-- ---- which entries are a listing's

abbrev pub AllWrites : Listing → List ByteWrite → Type 0
AllWrites l [] = Unit {0}
AllWrites l (x ∷ xs) = ((kind_of l x.space ≡ Ram) × ((x.offset < size_of l x.space) × (x.value < 256))) × AllWrites l xs

abbrev pub AllHidden : Listing → List HiddenWrite → Type 0
AllHidden l [] = Unit {0}
AllHidden l (x ∷ xs) = ((x.offset < size_of l (first_ram l)) × (x.value < 256)) × AllHidden l xs

-- each memory write is at a byte of a ram space of the listing, and each hidden write at one of the first ram space
pub record IsAnswer (l : Listing) (a : Answer) : Type 0 where
  pub registers : (o : ℕ) → a.registers o < 256
  pub memory : AllWrites l a.memory
  pub hidden : AllHidden l a.hidden

abbrev pub AllAnswers : Listing → List Answer → Type 0
AllAnswers l [] = Unit {0}
AllAnswers l (a ∷ rest) = IsAnswer l a × AllAnswers l rest

-- an entry holds bytes, and in the read-only ranges the listing's own
pub record IsEntry (l : Listing) (e : Entry) : Type 0 where
  pub bytes : (s o : ℕ) → e.bytes s o < 256
  pub hidden : (o b : ℕ) → e.hidden o ≡ Some b → b < 256
  pub fixed : (s o b : ℕ) → fixed_byte l s o ≡ Some b → e.bytes s o ≡ b
  pub answers : AllAnswers l e.answers

-- ---- the world, and its effects

-- memory, the answers left, what was recorded, and the end once there is one
pub record World (M : Type 0) : Type 0 where
  pub memory : M
  pub answers : List Answer
  pub events : List Event
  pub over : Option End

abbrev pub ended : {M : Type 0} → End → World M → World M
ended e w = record { memory = w.memory; answers = w.answers; events = w.events; over = Some e }

abbrev pub recorded : {M : Type 0} → Event → World M → World M
recorded x w = record { memory = w.memory; answers = w.answers; events = w.events ++ x ∷ []; over = w.over }

abbrev pub with_memory : {M : Type 0} → M → World M → World M
with_memory m w = record { memory = m; answers = w.answers; events = w.events; over = w.over }

-- a store that is observed: recorded and made, or the end that it meets, which records and changes nothing
abbrev pub stored_as : {M : Type 0} → Event → Result M End → World M → World M
stored_as x (Err e) w = ended e w
stored_as x (Ok m) w = recorded x (with_memory m w)

abbrev pub store : {M : Type 0} → Acts M → (space address : ℕ) → List ℕ → World M → World M
store m s a bs w = stored_as (Store s a bs) (m.write s a bs w.memory) w

-- the bytes that an answer writes, in order, until one of them ends the run
abbrev pub and_then : {A B : Type 0} → Result A End → (A → Result B End) → Result B End
and_then (Ok x) f = f x
and_then (Err e) f = Err e

abbrev pub write_all : {M : Type 0} → Acts M → List ByteWrite → M → Result M End
write_all m [] w = Ok w
write_all m (x ∷ xs) w = and_then (m.answer x w) (write_all m xs)

abbrev pub hide_all : {M : Type 0} → Acts M → List HiddenWrite → M → M
hide_all m [] w = w
hide_all m (x ∷ xs) w = hide_all m xs (m.hide x w)

-- What a call leads to: the end of the run, or the answer that it took and the world after that answer's memory writes
-- and then its hidden writes.
pub data Taken (M : Type 0) : Type 0 where
  Stops : World M → Taken M
  Took : Answer → World M → Taken M

abbrev pub took : {M : Type 0} → Acts M → Answer → List Answer → Result M End → World M → Taken M
took m a rest (Err e) w = Stops (ended e w)
took m a rest (Ok memory) w = Took a (record { memory = hide_all m a.hidden memory; answers = rest; events = w.events; over = w.over })

abbrev pub take_from : {M : Type 0} → Acts M → List Answer → World M → Taken M
take_from m [] w = Stops (ended NoAnswer w)
take_from m (a ∷ rest) w = took m a rest (write_all m a.memory w.memory) w

-- takes the next answer
abbrev pub take_answer : {M : Type 0} → Acts M → World M → Taken M
take_answer m w = take_from m w.answers w

-- the world of an entry, over its memory
abbrev pub first_world : {M : Type 0} → M → Entry → World M
first_world m e = record { memory = m; answers = e.answers; events = []; over = None }

abbrev pub shown : {M : Type 0} → World M → Trace
shown w = record { events = w.events; over = w.over }

-- the state, unless its run has ended
abbrev pub unless_over : {S : Type 0} → Option End → S → S → S
unless_over None s t = t
unless_over (Some e) s t = s
