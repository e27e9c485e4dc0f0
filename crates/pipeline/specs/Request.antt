-- What the words of the command line ask for, as far as it is built. This project's own.
use Rattle.std.specs.Prelude.{ℕ, Bool, false, not, List, Option, Some, None, is_some}
use Rattle.std.specs.Option.{option_map}
use Rattle.words.specs.Request as words
use Rattle.words.specs.Request.{text_in}
use Rattle.words.specs.declared.request.Stage.{Stage}
use Rattle.words.specs.declared.request.Stage.TheVariants as stage
use Rattle.pipeline.specs.declared.request.Form.{Form}
use Rattle.pipeline.specs.declared.request.Form.TheVariants.{C, Plain, Listing}
use Rattle.pipeline.specs.declared.request.Wanted as rust
use Rattle.pipeline.specs.declared.request.Wanted.TheVariants as wanted

-- the SSA text isn't built
abbrev pub form_of : Stage → Option Form
form_of stage.C = Some C
form_of stage.Ssa = None
form_of stage.Plain = Some Plain
form_of stage.Listing = Some Listing

-- Prints: a text of a file or, without one, of the standard input. Numbers: the numbers of a generated listing.
pub data Wanted : Type 0 where
  Prints : Form → Option (List ℕ) → Wanted
  Numbers : ℕ → Wanted

abbrev pub text_of : Option (List ℕ) → Option Form → Option Wanted
text_of file form = option_map (λ f. Prints f file) form

abbrev pub built : Option words.Asked → Option Wanted
built None = None
built (Some (words.Prints stage file)) = text_of file (form_of stage)
built (Some (words.Numbers n)) = Some (Numbers n)

abbrev pub asked_by : List (List ℕ) → Option Wanted
asked_by list = built (words.asked_by list)

abbrev pub wanted_of : rust.Wanted → Wanted
wanted_of (wanted.Text form file) = Prints form (text_in file)
wanted_of (wanted.Numbers n) = Numbers n

-- ---- what is read

-- whether it is the standard input, or a file of the shelf: a generated listing needs neither
abbrev pub reads_input : Option Wanted → Bool
reads_input None = false
reads_input (Some (Prints form file)) = not (is_some file)
reads_input (Some (Numbers n)) = false

abbrev pub reads_shelf : Option Wanted → Bool
reads_shelf None = false
reads_shelf (Some (Prints form file)) = is_some file
reads_shelf (Some (Numbers n)) = false
