-- What must come where no fault is counted and what lies outside is told. This project's own.
use Rattle.std.specs.Prelude.{◌≡◌, ◌<◌, ◌^◌, ◌-◌, ℕ, List, length, nat_lt, Result, Ok, Err, if◌then◌else◌}
use Rattle.outside.specs.declared.reading.ReadEnd.{ReadEnd}
use Rattle.outside.specs.declared.reading.ReadEnd.TheVariants.{TooLong}

-- no fault was counted
abbrev pub Quiet : ℕ → ℕ → Type 0
Quiet before now = (before < 2 ^ 64 - 1) × (now ≡ before)

-- all bytes, where there are at most so many
abbrev pub whole : ℕ → List ℕ → Result (List ℕ) ReadEnd
whole limit bytes = if nat_lt limit (length bytes) then Err TooLong else Ok bytes
