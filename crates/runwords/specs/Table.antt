-- The table of statuses, over what the three inputs come to: `Shows` says which text they show with so many steps, and
-- `Faults` which line names why they are refused. This project's own.
use Rattle.std.specs.Prelude.{◌≡◌, ℕ, List, codes, Option, Some, Result, Ok}
use Rattle.outside.specs.Told.{Folder, Held, Told}
use Rattle.outside.specs.declared.reading.ReadEnd.{ReadEnd}
use Rattle.statuses.specs.Answer.{Answer}
use Rattle.statuses.specs.Cause as cause
use Rattle.statuses.specs.Table as any
use Rattle.statuses.specs.Told.{Quiet}
use Rattle.runwords.specs.Fetched.{AllFetched, all_in}
use Rattle.runwords.specs.Request.{Asked}
use Rattle.runwords.specs.declared.files.Inputs.{Inputs}
use Rattle.runwords.specs.declared.gathering.Gathered.{Gathered}

-- what begins each line
abbrev pub program : List ℕ
program = codes "runboth"

-- the words ask for these inputs and for so many steps, and the inputs were read whole
abbrev pub IsGathered : Option Asked → (Asked → Result Inputs ReadEnd → Type 0) → Gathered → Type 0
IsGathered asked reads g = (a : Asked) × ((asked ≡ Some a) × (reads a (Ok g.inputs) × (g.steps ≡ a.steps)))

module _ (Shows : Inputs → ℕ → List ℕ → Type 0) (Faults : Inputs → List ℕ → Type 0) where
  -- what the inputs come to after so many steps, before anything is written
  abbrev pub IsJudged : Inputs → ℕ → Answer → Type 0
  IsJudged inputs steps o = cause.Judges (λ (n : ℕ) (i : Inputs) text. Shows i n text)
      (λ (n : ℕ) (i : Inputs) line. Faults i line) steps inputs o

  -- why a call comes to an answer, where reading the files gives this
  abbrev pub Because : Option Asked → (Asked → Result Inputs ReadEnd → Type 0) → Answer → Type 0
  Because asked reads o = cause.Because (λ (a : Asked) (i : Inputs) text. Shows i a.steps text)
      (λ (a : Asked) (i : Inputs) line. Faults i line) asked reads o

  -- What each status says, where the files were read so. And where the shelf's files are told and no fault is counted,
  -- which is due: what must come is read off the files.
  abbrev pub Table : Option Asked → Told → Told → Held → Held → Held → Held → ℕ → Type 0
  Table asked shelf shelf_new out out_new err err_new status =
      any.Table program (Because asked (λ a came. AllFetched a shelf shelf_new came))
      (λ (files : Folder). Quiet shelf.faults shelf_new.faults × (shelf.files ≡ Some files))
      (λ files. Because asked (λ a came. came ≡ all_in files a)) out out_new err err_new status
