-- What entries and traces stand for. This project's own.
use Rattle.std.specs.Prelude.{ℕ, List, [], ◌∷◌, map, Option, Some, None}
use Rattle.bits_core.specs.declared.word.Word.{Word}
use Rattle.machine.specs.Trace as T
use Rattle.pcode_model.specs.declared.listing.Listing.{Listing}
use Rattle.pcode_model.specs.Spaces.{fixed_byte, put, put_in}
use Rattle.pcode_model.specs.Memory.{ByteWrite, HiddenWrite, Bytes, or_else, poke}
use Rattle.pcode_model.specs.World as W
use Rattle.run_world.specs.declared.entry.Byte.{Byte}
use Rattle.run_world.specs.declared.entry.Answer.{Answer}
use Rattle.run_world.specs.declared.entry.Entry.{Entry}
use Rattle.run_world.specs.declared.trace.Event.{Event}
use Rattle.run_world.specs.declared.trace.Event.TheVariants as event
use Rattle.run_world.specs.declared.trace.End.{End}
use Rattle.run_world.specs.declared.trace.End.TheVariants as end
use Rattle.run_world.specs.declared.trace.Trace.{Trace}

-- ---- lists of bytes

-- the bytes by space and offset, with each byte of a list put in, in order
abbrev pub with_bytes : List Byte → (ℕ → ℕ → Option ℕ) → ℕ → ℕ → Option ℕ
with_bytes [] f = f
with_bytes (b ∷ bs) f = with_bytes bs (put_in b.space b.offset (Some b.value) f)

-- the bytes of one space by offset, likewise
abbrev pub with_offsets : List Byte → (ℕ → Option ℕ) → ℕ → Option ℕ
with_offsets [] f = f
with_offsets (b ∷ bs) f = with_offsets bs (put f b.offset (Some b.value))

-- bytes with each byte of a list written, in order
abbrev pub poked : List Byte → Bytes → Bytes
poked [] m = m
poked (b ∷ bs) m = poked bs (poke b.space b.offset b.value m)

-- ---- answers

abbrev pub written : Byte → ByteWrite
written b = record { space = b.space; offset = b.offset; value = b.value }

abbrev pub hidden : Byte → HiddenWrite
hidden b = record { offset = b.offset; value = b.value }

-- the register bytes of an answer, 0 where it names none
abbrev pub registers_of : Answer → ℕ → ℕ
registers_of a o = or_else (with_offsets a.registers (λ p. None) o) 0

abbrev pub answer_of : Answer → W.Answer
answer_of a =
    record { word = a.word; registers = registers_of a; memory = map written a.memory; hidden = map hidden a.hidden }

-- ---- entries

-- the bytes of the list, the listing's read-only bytes besides, and 0 elsewhere
abbrev pub first_bytes : Listing → List Byte → Bytes
first_bytes l bs s o = or_else (with_bytes bs (fixed_byte l) s o) 0

abbrev pub entry_of : Listing → Entry → W.Entry
entry_of l e =
    record
    { bytes = first_bytes l e.state; hidden = with_offsets e.hidden (λ o. None); answers = map answer_of e.answers }

-- ---- traces

abbrev pub value_of : Word → ℕ
value_of w = w.value

abbrev pub event_of : Event → T.Event
event_of (event.Call target args) = T.Call target (map value_of args)
event_of (event.Other index args) = T.Other index (map value_of args)
event_of (event.Store space offset bytes) = T.Store space offset bytes

abbrev pub returned : Option Word → Option ℕ
returned None = None
returned (Some w) = Some w.value

abbrev pub end_of : End → T.End
end_of (end.Returned word) = T.Returned (returned word)
end_of end.DivZero = T.DivZero
end_of end.ReadOnlyWrite = T.ReadOnlyWrite
end_of end.NoAnswer = T.NoAnswer
end_of end.NoReturn = T.NoReturn
end_of end.Outside = T.Outside
end_of end.BadTarget = T.BadTarget
end_of end.Undefined = T.Undefined

abbrev pub over_of : Option End → Option T.End
over_of None = None
over_of (Some e) = Some (end_of e)

abbrev pub trace_of : Trace → T.Trace
trace_of t = record { events = map event_of t.events; over = over_of t.end }
