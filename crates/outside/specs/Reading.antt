-- What comes of reading to the end. This project's own.
use Rattle.std.specs.Prelude.{◌≡◌, ℕ, ◌+◌, ◌≤◌, ◌<◌, ◌++◌, Bool, true, false, List, [], length, Option, Result, Ok, Err}
use Rattle.std.specs.Io.KnownBytes.{Consumes, IsAtEnd}
use Rattle.outside.specs.Causes.{Rose}
use Rattle.outside.specs.Told.{Told}
use Rattle.outside.specs.declared.reading.ReadEnd.{ReadEnd}
use Rattle.outside.specs.declared.reading.ReadEnd.TheVariants.{Fault, TooLong, Memory}

-- exactly n bytes came, where the bytes left are told
abbrev pub TookExactly : Option (List ℕ) → Option (List ℕ) → ℕ → Type 0
TookExactly old new n = (bytes : List ℕ) × Consumes old new bytes × (length bytes ≡ n)

-- at most n bytes came, where the bytes left are told
abbrev pub TookAtMost : Option (List ℕ) → Option (List ℕ) → ℕ → Type 0
TookAtMost old new n = (bytes : List ℕ) × Consumes old new bytes × (length bytes ≤ n)

-- reading a source up to a limit gave this: all bytes to the end; or a fault after at most
-- so many bytes; or one byte too many; or no memory for what came
abbrev pub Gave : ℕ → Told → Told → Result (List ℕ) ReadEnd → Type 0
Gave limit old new (Ok bytes) = Consumes old.left new.left bytes × IsAtEnd new.left × (length bytes ≤ limit) × (new.faults ≡ old.faults)
Gave limit old new (Err Fault) = TookAtMost old.left new.left limit × Rose old.faults new.faults
Gave limit old new (Err TooLong) = TookExactly old.left new.left (limit + 1) × (new.faults ≡ old.faults)
Gave limit old new (Err Memory) = TookAtMost old.left new.left (limit + 1) × (new.faults ≡ old.faults)

-- one more read added bytes to those that had come: `more` tells whether there were any
pub record Grew (left_old left_new : Option (List ℕ)) (most : ℕ) (old new : List ℕ) (more : Bool) : Type 0 where
  pub got : List ℕ
  pub taken : Consumes left_old left_new got
  pub added : new ≡ old ++ got
  pub within : length new ≤ most
  pub some : more ≡ true → 0 < length got
  pub none : more ≡ false → (got ≡ []) × IsAtEnd left_new
