-- A text that is read line by line.
use Rattle.std.specs.Prelude.{◌+◌, ℕ, List, [], ◌∷◌}
use Rattle.listing_lines.specs.Text.{Line, lines_of}

-- a line has a fault, or leads on
pub data Step (State Fault : Type 0) : Type 0 where
  Fails : Fault → Step State Fault
  Goes : State → Step State Fault

-- the number of the next line and the state before it, or the number of the first faulty line and its fault
pub data Progress (State Fault : Type 0) : Type 0 where
  Going : ℕ → State → Progress State Fault
  Stopped : ℕ → Fault → Progress State Fault

-- after the line with the number n
abbrev pub moved : {State Fault : Type 0} → ℕ → Step State Fault → Progress State Fault
moved n (Fails fault) = Stopped n fault
moved n (Goes state) = Going (n + 1) state

module _ {State Fault : Type 0} (step : State → Line → Step State Fault) where
  abbrev pub advance : Progress State Fault → Line → Progress State Fault
  advance (Going n state) line = moved n (step state line)
  advance (Stopped n fault) line = Stopped n fault

  abbrev pub advanced : Progress State Fault → List Line → Progress State Fault
  advanced p [] = p
  advanced p (line ∷ lines) = advanced (advance p line) lines

  -- how far a text is read: its lines are numbered from 1 on
  abbrev pub progress : State → List ℕ → Progress State Fault
  progress start bytes = advanced (Going 1 start) (lines_of bytes)

-- what a text says, or its fault
pub data Read (Value Fault : Type 0) : Type 0 where
  Good : Value → Read Value Fault
  Bad : Fault → Read Value Fault

-- where the text ends it says what the state does, n being one more than the number of its lines
abbrev pub concluded : {State Why Value Fault : Type 0}
    → (ℕ → Why → Fault)
    → (ℕ → State → Read Value Fault)
    → Progress State Why
    → Read Value Fault
concluded fault_at finished (Going n state) = finished n state
concluded fault_at finished (Stopped n why) = Bad (fault_at n why)
