-- Why a call comes to an answer. This project's own.
use Rattle.std.specs.Prelude.{◌≡◌, ℕ, List, Option, Some, None, Result, Ok, Err, ⊤}
use Rattle.outside.specs.declared.reading.ReadEnd.{ReadEnd}
use Rattle.outside.specs.declared.reading.ReadEnd.TheVariants.{Fault, TooLong}
use Rattle.statuses.specs.Answer as answer
use Rattle.statuses.specs.Answer.{Answer}

-- what the words ask for was read, and this came of it
abbrev pub Reads : {A I : Type 0} → Option A → (A → Result I ReadEnd → Type 0) → Result I ReadEnd → Type 0
Reads {A} asked reads came = (a : A) × ((asked ≡ Some a) × reads a came)

-- A program says for a request and an input which text they show, and which line names why the input is refused.
module _ {A I : Type 0} (Shows Faults : A → I → List ℕ → Type 0) where
  -- what an input that was read whole comes to, unless memory ran out
  abbrev pub Judges : A → I → Answer → Type 0
  Judges a i (answer.Shown text) = Shows a i text
  Judges a i (answer.Refused line) = Faults a i line
  Judges a i answer.BadArguments = ⊥
  Judges a i answer.ReadFault = ⊥
  Judges a i answer.TooLong = ⊥
  Judges a i answer.Memory = ⊤

  -- `asked` is what the words ask for, where they are taken, and `reads` says what came of reading the input for it: an
  -- input that was read whole shows a text or is refused.
  abbrev pub Because : Option A → (A → Result I ReadEnd → Type 0) → Answer → Type 0
  Because asked reads (answer.Shown text) = (a : A) × ((i : I) × ((asked ≡ Some a) × (reads a (Ok i) × Shows a i text)))
  Because asked reads (answer.Refused line) = (a : A)
      × ((i : I) × ((asked ≡ Some a) × (reads a (Ok i) × Faults a i line)))
  Because asked reads answer.BadArguments = asked ≡ None
  Because asked reads answer.ReadFault = Reads asked reads (Err Fault)
  Because asked reads answer.TooLong = Reads asked reads (Err TooLong)
  Because asked reads answer.Memory = ⊤

-- why a call ends before an input is judged
abbrev pub Ends : {A I : Type 0} → Option A → (A → Result I ReadEnd → Type 0) → Answer → Type 0
Ends asked reads (answer.Shown text) = ⊥
Ends asked reads (answer.Refused line) = ⊥
Ends asked reads answer.BadArguments = asked ≡ None
Ends asked reads answer.ReadFault = Reads asked reads (Err Fault)
Ends asked reads answer.TooLong = Reads asked reads (Err TooLong)
Ends asked reads answer.Memory = ⊤
