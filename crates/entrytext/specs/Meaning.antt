-- What a line without a fault says, and what the whole text does. This project's own.
use Rattle.std.specs.Prelude.{suc, ℕ, true, false, List, [], ◌∷◌, ◌++◌, Option, Some, None, if◌then◌else◌}
use Rattle.std.specs.Option.{option_map, option_to_list}
use Rattle.listing_lines.specs.Text.{Line}
use Rattle.line_reader.specs.Faults.{first_fault}
use Rattle.line_reader.specs.Reading.{Step, concluded, progress}
use Rattle.line_reader.specs.Reading.Step.{Fails, Goes}
pub use Rattle.line_reader.specs.Reading.{Read}
pub use Rattle.line_reader.specs.Reading.Read.{Bad, Good}
use Rattle.pcode_model.specs.declared.listing.Listing.{Listing}
use Rattle.run_world.specs.declared.entry.Answer.{Answer}
use Rattle.run_world.specs.declared.entry.Byte.{Byte}
use Rattle.run_world.specs.declared.entry.Entry.{Entry}
use Rattle.entrytext.specs.declared.fault.EntryFault.{EntryFault}
use Rattle.entrytext.specs.declared.fault.EntryFault.TheVariants as entry_fault
use Rattle.entrytext.specs.declared.fault.Why.{Why}
use Rattle.entrytext.specs.declared.fault.Why.TheVariants as why
use Rattle.entrytext.specs.declared.form.BytesLine.{BytesLine}
use Rattle.entrytext.specs.declared.form.Form.{Form}
use Rattle.entrytext.specs.declared.form.Form.TheVariants as form
use Rattle.entrytext.specs.declared.form.Part.{Part}
use Rattle.entrytext.specs.declared.form.Part.TheVariants as part
use Rattle.entrytext.specs.declared.partial_entry.PartialEntry.{PartialEntry}
use Rattle.entrytext.specs.Faults.{faults}
use Rattle.entrytext.specs.Forms.{form_of}

-- ---- what a line says

-- of a line without a fault the space is known
abbrev pub number : Option ℕ → ℕ
number None = 0
number (Some n) = n

-- bytes of a space from an offset on
abbrev pub bytes_from : ℕ → ℕ → List ℕ → List Byte
bytes_from space offset [] = []
bytes_from space offset (b ∷ bytes) =
    record { space = space; offset = offset; value = b } ∷ bytes_from space (suc offset) bytes

abbrev pub bytes_in : BytesLine → List Byte
bytes_in b = bytes_from (number b.space) b.offset b.bytes

abbrev pub with_part : Part → List Byte → Answer → Answer
with_part part.Registers bytes a = record a { registers = a.registers ++ bytes }
with_part part.Memory bytes a = record a { memory = a.memory ++ bytes }
with_part part.Hidden bytes a = record a { hidden = a.hidden ++ bytes }

abbrev pub after : PartialEntry → Form → PartialEntry
after s form.Nothing = s
after s form.Entry = record s { begun = true }
after s (form.State b) = record s { state = s.state ++ bytes_in b }
after s (form.Hidden b) = record s { hidden = s.hidden ++ bytes_in b }
after s (form.Answer word) = record s {
  done = s.done ++ option_to_list s.last;
  last = Some (record { word = word; registers = []; memory = []; hidden = [] });
}
after s (form.Answered p b) = record s { last = option_map (with_part p (bytes_in b)) s.last }
after s form.End = record s { ended = true }

-- before the first line
abbrev pub start : PartialEntry
start = record { begun = false; state = []; hidden = []; done = []; last = None; ended = false }

-- ---- a text, line by line

abbrev pub stepped : PartialEntry → Form → Option Why → Step PartialEntry Why
stepped s form (Some why) = Fails why
stepped s form None = Goes (after s form)

abbrev pub step_by : Listing → PartialEntry → Form → Step PartialEntry Why
step_by l s form = stepped s form (first_fault (faults l s form))

-- no line is skipped
abbrev pub step : Listing → PartialEntry → Line → Step PartialEntry Why
step l s line = step_by l s (form_of l line)

-- the fault of the line with the number n
abbrev pub fault_at : ℕ → Why → EntryFault
fault_at n why.Syntax = entry_fault.Syntax n
fault_at n why.Order = entry_fault.Order n
fault_at n why.Range = entry_fault.Range n

abbrev pub entry_of : PartialEntry → Entry
entry_of s = record { state = s.state; hidden = s.hidden; answers = s.done ++ option_to_list s.last }

-- where the text ends, n being one more than the number of its lines
abbrev pub finished : ℕ → PartialEntry → Read Entry EntryFault
finished n s = if s.ended then Good (entry_of s) else Bad (entry_fault.Syntax n)

-- what a text says, or the first fault of its least faulty line
abbrev pub reading : Listing → List ℕ → Read Entry EntryFault
reading l bytes = concluded fault_at finished (progress (step l) start bytes)
