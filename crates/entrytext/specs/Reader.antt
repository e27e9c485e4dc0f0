-- What the reader asks for and answers.
use Rattle.std.specs.Prelude.{◌≡◌, ⊤}
use Rattle.line_reader.specs.Reading.{Read}
use Rattle.line_reader.specs.Reading.Read.{Bad}
use Rattle.pcode_model.specs.declared.listing.Listing.{Listing}
use Rattle.pcode_model.specs.WellFormed.{IsWellFormed}
use Rattle.run_world.specs.declared.entry.Entry.{Entry}
use Rattle.run_world.specs.declared.setting.Setting.{Setting}
use Rattle.run_world.specs.Setting.{IsSetting}
use Rattle.entrytext.specs.declared.fault.EntryFault.{EntryFault}
use Rattle.entrytext.specs.declared.fault.EntryFault.TheVariants as entry_fault

-- lines are read by what is looked up in a listing
pub record CanRead (l : Listing) (s : Setting) : Type 0 where
  pub formed : IsWellFormed l
  pub setting : IsSetting l s

-- the text has that fault, or memory ran out
abbrev pub IsFaultOf : Read Entry EntryFault → EntryFault → Type 0
IsFaultOf read (entry_fault.Syntax n) = read ≡ Bad (entry_fault.Syntax n)
IsFaultOf read (entry_fault.Order n) = read ≡ Bad (entry_fault.Order n)
IsFaultOf read (entry_fault.Range n) = read ≡ Bad (entry_fault.Range n)
IsFaultOf read entry_fault.Memory = ⊤
