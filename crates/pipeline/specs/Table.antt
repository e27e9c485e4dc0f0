-- The table of statuses. This project's own.
use Rattle.std.specs.Prelude.{◌≡◌, ℕ, List, [], codes, Option, Some, None, Ok, Result}
use Rattle.outside.specs.Reading.{Gave}
use Rattle.outside.specs.Told.{Folder, Held, Told}
use Rattle.outside.specs.declared.reading.ReadEnd.{ReadEnd}
use Rattle.pcode_model.specs.Limits.{max_input}
use Rattle.statuses.specs.Fetched.{Fetched, in_folder}
use Rattle.statuses.specs.Table as any
use Rattle.statuses.specs.Told.{Quiet, whole}
use Rattle.refusals.specs.Good.{Bytes}
use Rattle.pipeline.specs.Cause.{Because}
use Rattle.pipeline.specs.Request.{Numbers, Prints, Wanted}

-- what begins each line
abbrev pub program : List ℕ
program = codes "pcode2c"

-- ---- what lies outside, as it tells of itself

pub record Sources : Type 0 where
  pub input : Told
  pub shelf : Told

pub record Outside : Type 0 where
  pub sources : Sources
  pub out : Held
  pub err : Held

abbrev pub sources : Told → Told → Sources
sources input shelf = record { input = input; shelf = shelf }

abbrev pub told : Told → Told → Held → Held → Outside
told input shelf out err = record { sources = sources input shelf; out = out; err = err }

-- ---- what comes of reading what is wanted, the standard input or a file of the shelf

abbrev pub FileCame : Option (List ℕ) → Sources → Sources → Result Bytes ReadEnd → Type 0
FileCame None before after came = Gave max_input before.input after.input came
FileCame (Some name) before after came = Fetched max_input name before.shelf after.shelf came

-- nothing for the numbers of a generated listing
abbrev pub Came : Sources → Sources → Wanted → Result Bytes ReadEnd → Type 0
Came before after (Prints form file) came = FileCame file before after came
Came before after (Numbers n) came = came ≡ Ok []

-- ---- what must come where no fault is counted and what is read is told

-- the bytes of the standard input, and the files of the shelf
pub record Facts : Type 0 where
  pub bytes : Bytes
  pub files : Folder

abbrev pub FileTold : Option (List ℕ) → Sources → Sources → Facts → Type 0
FileTold None before after facts =
    Quiet before.input.faults after.input.faults × (before.input.left ≡ Some facts.bytes)
FileTold (Some name) before after facts =
    Quiet before.shelf.faults after.shelf.faults × (before.shelf.files ≡ Some facts.files)

-- where nothing is read nothing has to be told
abbrev pub IsTold : Option Wanted → Sources → Sources → Facts → Type 0
IsTold None before after facts = Unit {0}
IsTold (Some (Prints form file)) before after facts = FileTold file before after facts
IsTold (Some (Numbers n)) before after facts = Unit {0}

abbrev pub file_due : Facts → Option (List ℕ) → Result Bytes ReadEnd
file_due facts None = whole max_input facts.bytes
file_due facts (Some name) = in_folder max_input facts.files name

abbrev pub due : Facts → Wanted → Result Bytes ReadEnd
due facts (Prints form file) = file_due facts file
due facts (Numbers n) = Ok []

-- ---- the table

-- What each status says, where what is wanted was read so. And where that is told and no fault is counted, which is due:
-- 2 where the words are refused; else 0 for the numbers of a generated listing, 3 for a file that is missing, 6 for more
-- bytes than the limit, 0 for an input that is accepted, and 1 for one that isn't.
abbrev pub Table : Option Wanted → Outside → Outside → ℕ → Type 0
Table asked before after status =
    any.Table program (Because asked (Came before.sources after.sources)) (IsTold asked before.sources after.sources)
    (λ facts. Because asked (λ w came. came ≡ due facts w)) before.out after.out before.err after.err status
