-- What comes of reading a file of a shelf. This project's own.
use Rattle.std.specs.Prelude.{◌≡◌, ◌⊎◌, ℕ, List, Option, Some, None, Result, Ok, Err}
use Rattle.outside.specs.Causes.{Rose}
use Rattle.outside.specs.Files.{IsFile, IsMissing, file_of}
use Rattle.outside.specs.Reading.{Gave}
use Rattle.outside.specs.Told.{Folder, Told}
use Rattle.outside.specs.declared.reading.ReadEnd.{ReadEnd}
use Rattle.outside.specs.declared.reading.ReadEnd.TheVariants.{Fault}
use Rattle.statuses.specs.Told.{whole}

-- the named file was selected, and nothing else changed
pub record Selected (name : List ℕ) (old new : Told) : Type 0 where
  pub chosen : IsFile name old.files new.left
  pub files : new.files ≡ old.files
  pub kept : new.faults ≡ old.faults

-- the file was selected and reading it up to a limit gave this; or it couldn't be selected
abbrev pub Fetched : ℕ → List ℕ → Told → Told → Result (List ℕ) ReadEnd → Type 0
Fetched limit name old new came = ((mid : Told) × (Selected name old mid × Gave limit mid new came))
    ⊎ ((came ≡ Err Fault) × (Rose old.faults new.faults ⊎ IsMissing name old.files))

-- ---- what must come where the files are told, no fault is counted and memory suffices

abbrev pub file_whole : ℕ → Option (List ℕ) → Result (List ℕ) ReadEnd
file_whole limit None = Err Fault
file_whole limit (Some bytes) = whole limit bytes

-- a file of a folder
abbrev pub in_folder : ℕ → Folder → List ℕ → Result (List ℕ) ReadEnd
in_folder limit files name = file_whole limit (file_of name files)
