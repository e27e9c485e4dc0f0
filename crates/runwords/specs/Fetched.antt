-- What comes of reading the files. This project's own.
use Rattle.std.specs.Prelude.{◌≡◌, ◌⊎◌, ◌≤◌, ℕ, List, length, Result, Ok, Err}
use Rattle.outside.specs.Told.{Folder, Told}
use Rattle.outside.specs.declared.reading.ReadEnd.{ReadEnd}
use Rattle.pcode_model.specs.Limits.{max_input}
use Rattle.statuses.specs.Fetched.{Fetched, in_folder}
use Rattle.runwords.specs.Request.{Asked}
use Rattle.runwords.specs.declared.files.Inputs.{Inputs}

-- no file has more bytes
pub record AreShort (i : Inputs) : Type 0 where
  pub listing : length i.listing ≤ max_input
  pub c_text : length i.c_text ≤ max_input
  pub entry : length i.entry ≤ max_input

-- a file was read, and nothing but what is left changed
abbrev pub Passed : List ℕ → Told → Told → List ℕ → Type 0
Passed name old new bytes = Fetched max_input name old new (Ok bytes) × (new.files ≡ old.files)

-- the three files were read in their order; or the first that wasn't ended it so
abbrev pub AllFetched : Asked → Told → Told → Result Inputs ReadEnd → Type 0
AllFetched a old new (Ok inputs) = (first : Told)
    × ((second : Told) × (Passed a.listing old first inputs.listing
    × (Passed a.c_text first second inputs.c_text × Passed a.entry second new inputs.entry)))
AllFetched a old new (Err end) = Fetched max_input a.listing old new (Err end)
    ⊎ (((first : Told) × ((bytes : List ℕ) × (Passed a.listing old first bytes × Fetched max_input a.c_text first new (Err end))))
    ⊎ ((first : Told) × ((second : Told)
    × ((bytes : List ℕ) × ((more : List ℕ)
    × (Passed a.listing old first bytes
    × (Passed a.c_text first second more × Fetched max_input a.entry second new (Err end))))))))

-- ---- what must come where the files are told, no fault is counted and memory suffices

abbrev pub with_entry : List ℕ → List ℕ → Result (List ℕ) ReadEnd → Result Inputs ReadEnd
with_entry listing c_text (Err end) = Err end
with_entry listing c_text (Ok entry) = Ok (record { listing = listing; c_text = c_text; entry = entry })

abbrev pub with_c_text : Folder → Asked → List ℕ → Result (List ℕ) ReadEnd → Result Inputs ReadEnd
with_c_text files a listing (Err end) = Err end
with_c_text files a listing (Ok c_text) = with_entry listing c_text (in_folder max_input files a.entry)

abbrev pub with_listing : Folder → Asked → Result (List ℕ) ReadEnd → Result Inputs ReadEnd
with_listing files a (Err end) = Err end
with_listing files a (Ok listing) = with_c_text files a listing (in_folder max_input files a.c_text)

-- the three files, or why the first that can't be read can't
abbrev pub all_in : Folder → Asked → Result Inputs ReadEnd
all_in files a = with_listing files a (in_folder max_input files a.listing)
