-- What an object of the outside tells of itself. This project's own.
use Rattle.std.specs.Prelude.{ℕ, List, Option, None}

-- files: names with their bytes
abbrev pub Folder : Type 0
Folder = List (List ℕ × List ℕ)

-- of a source: the bytes that are left and the files, each where it is told, and the count of faults
pub record Told : Type 0 where
  pub left : Option (List ℕ)
  pub files : Option Folder
  pub faults : ℕ

-- of a sink: the bytes that it took, where they are told, and the count of faults
pub record Held : Type 0 where
  pub taken : Option (List ℕ)
  pub faults : ℕ

-- a source that is no shelf tells no files
abbrev pub no_files : Option Folder
no_files = None
