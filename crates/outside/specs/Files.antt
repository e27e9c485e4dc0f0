-- Files by their names. This project's own.
use Rattle.std.specs.Prelude.{◌≡◌, ℕ, List, [], ◌∷◌, Option, Some, None, if◌then◌else◌, map, slice_get, string_bytes}
use Rattle.std.specs.Str.{bytes_eq}
use Rattle.outside.specs.Told.{Folder}
use Rattle.outside.specs.declared.files.File.{File}

-- the bytes of the first file with the name
abbrev pub file_of : List ℕ → Folder → Option (List ℕ)
file_of name [] = None
file_of name (file ∷ rest) = if bytes_eq file.0 name then Some file.1 else file_of name rest

-- the files are told, and the name isn't among them
abbrev pub IsMissing : List ℕ → Option Folder → Type 0
IsMissing name None = ⊥
IsMissing name (Some files) = file_of name files ≡ None

-- where the files are told, these are the bytes of the named one
abbrev pub IsFile : List ℕ → Option Folder → Option (List ℕ) → Type 0
IsFile name None left = Unit {0}
IsFile name (Some files) left = (bytes : List ℕ) × (file_of name files ≡ Some bytes) × (left ≡ Some bytes)

-- a file of a program: its name and its bytes
abbrev pub entry_of : File → List ℕ × List ℕ
entry_of file = (string_bytes file.name, file.bytes)

abbrev pub folder_of : List File → Folder
folder_of files = map entry_of files

-- the bytes of the file, where there is one
abbrev pub bytes_of : Option File → List ℕ
bytes_of None = []
bytes_of (Some file) = file.bytes

-- the bytes of the file at this place, or none past the last
abbrev pub bytes_at : List File → ℕ → List ℕ
bytes_at files i = bytes_of (slice_get files i)
