-- What the reader answers.
use Rattle.std.specs.Prelude.{◌≡◌, ⊤}
use Rattle.line_reader.specs.Reading.{Read}
use Rattle.line_reader.specs.Reading.Read.{Bad}
use Rattle.pcode_model.specs.declared.listing.Listing.{Listing}
use Rattle.pcodetext.specs.declared.fault.TextFault.{TextFault}
use Rattle.pcodetext.specs.declared.fault.TextFault.TheVariants as text_fault

-- the text has that fault, or memory ran out
abbrev pub IsFaultOf : Read Listing TextFault → TextFault → Type 0
IsFaultOf read (text_fault.Syntax n) = read ≡ Bad (text_fault.Syntax n)
IsFaultOf read (text_fault.Version n) = read ≡ Bad (text_fault.Version n)
IsFaultOf read (text_fault.Duplicate n) = read ≡ Bad (text_fault.Duplicate n)
IsFaultOf read (text_fault.Unknown n) = read ≡ Bad (text_fault.Unknown n)
IsFaultOf read (text_fault.Range n) = read ≡ Bad (text_fault.Range n)
IsFaultOf read (text_fault.Order n) = read ≡ Bad (text_fault.Order n)
IsFaultOf read text_fault.Memory = ⊤
