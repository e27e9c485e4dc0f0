-- What a text says, line by line.
use Rattle.std.specs.Option.{option_to_list}
use Rattle.std.specs.Prelude.{Bool, List, None, Option, Some, [], false, if◌then◌else◌, true, ℕ, ◌++◌, ◌==◌, ◌∷◌}
use Rattle.listing_lines.specs.Text.{Line}
use Rattle.line_reader.specs.Faults.{first_fault}
use Rattle.line_reader.specs.Reading.Step.{Fails, Goes}
pub use Rattle.line_reader.specs.Reading.{Read}
pub use Rattle.line_reader.specs.Reading.Read.{Bad, Good}
use Rattle.line_reader.specs.Reading.{Step, concluded, progress}
use Rattle.pcode_model.specs.WellFormed.{constant_space}
use Rattle.pcode_model.specs.declared.listing.Function.{Function}
use Rattle.pcode_model.specs.declared.listing.Listing.{Listing}
use Rattle.pcodetext.specs.LineKinds.{after, faults, form_of}
use Rattle.pcodetext.specs.declared.fault.TextFault.TheVariants as text_fault
use Rattle.pcodetext.specs.declared.fault.TextFault.{TextFault}
use Rattle.pcodetext.specs.declared.fault.Why.TheVariants as why
use Rattle.pcodetext.specs.declared.fault.Why.{Why}
use Rattle.pcodetext.specs.declared.line_kinds.Form.{Form}
use Rattle.pcodetext.specs.declared.partial_listing.PartialListing.{PartialListing}

-- ---- a line more

-- before the first line
abbrev pub start : PartialListing
start =
    record {
      version = None;
      spaces = constant_space ∷ [];
      stack = None;
      protos = [];
      func = None;
      callees = [];
      fixed = [];
      done = [];
      last = None;
      ops = 0;
      ended = false;
    }

-- an empty line, and one that begins with `#`, which is 35
abbrev pub is_skipped : Line → Bool
is_skipped [] = true
is_skipped (b ∷ line) = b == 35

abbrev pub stepped : PartialListing → Form → Option Why → Step PartialListing Why
stepped s form (Some why) = Fails why
stepped s form None = Goes (after s form)

abbrev pub step_by : PartialListing → Form → Step PartialListing Why
step_by s form = stepped s form (first_fault (faults s form))

abbrev pub step : PartialListing → Line → Step PartialListing Why
step s line = if is_skipped line then Goes s else step_by s (form_of s line)

-- ---- a text

-- the fault of the line with the number n
abbrev pub fault_at : ℕ → Why → TextFault
fault_at n why.Version = text_fault.Version n
fault_at n why.Syntax = text_fault.Syntax n
fault_at n why.Order = text_fault.Order n
fault_at n why.Unknown = text_fault.Unknown n
fault_at n why.Duplicate = text_fault.Duplicate n
fault_at n why.Range = text_fault.Range n

abbrev pub listing_of : PartialListing → ℕ → Function → Listing
listing_of s version func =
    record {
      version = version;
      spaces = s.spaces;
      stack = s.stack;
      protos = s.protos;
      func = func;
      callees = s.callees;
      fixed = s.fixed;
      code = s.done ++ option_to_list s.last;
    }

-- where a text has its `end`, it has a version and a function
abbrev pub whole : PartialListing → ℕ → Option ℕ → Option Function → Read Listing TextFault
whole s n None func = Bad (text_fault.Syntax n)
whole s n (Some version) None = Bad (text_fault.Syntax n)
whole s n (Some version) (Some func) = Good (listing_of s version func)

-- where the input ends, n being one more than the number of its lines
abbrev pub finished : ℕ → PartialListing → Read Listing TextFault
finished n s = if s.ended then whole s n s.version s.func else Bad (text_fault.Syntax n)

-- what a text says, or the first fault of its least faulty line
abbrev pub reading : List ℕ → Read Listing TextFault
reading bytes = concluded fault_at finished (progress step start bytes)
