-- What comes of writing a piece to its end. This project's own.
use Rattle.std.specs.Prelude.{◌≡◌, ℕ, ◌<◌, List, length, take}
use Rattle.std.specs.Io.KnownBytes.{Appends}
use Rattle.outside.specs.Causes.{Rose}
use Rattle.outside.specs.Told.{Held}

-- the piece was taken whole, and no fault was counted
abbrev pub Wrote : Held → Held → List ℕ → Type 0
Wrote old new piece = Appends old.taken new.taken piece × (new.faults ≡ old.faults)

-- a fault was counted, and a proper prefix of the piece was taken
abbrev pub WroteShort : Held → Held → List ℕ → Type 0
WroteShort old new piece = Rose old.faults new.faults × ((k : ℕ) × (k < length piece) × Appends old.taken new.taken (take k piece))
