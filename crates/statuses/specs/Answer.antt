-- What a call of a program comes to. This project's own.
use Rattle.std.specs.Prelude.{ℕ, List}
use Rattle.statuses.specs.declared.outcome.Outcome.{Outcome}
use Rattle.statuses.specs.declared.outcome.Outcome.TheVariants as outcome

-- Shown: a text. Refused: the line that names why the input is refused.
pub data Answer : Type 0 where
  Shown : List ℕ → Answer
  Refused : List ℕ → Answer
  BadArguments : Answer
  ReadFault : Answer
  TooLong : Answer
  Memory : Answer

abbrev pub answer_of : Outcome → Answer
answer_of (outcome.Shown text) = Shown text.items
answer_of (outcome.Refused line) = Refused line.items
answer_of outcome.BadArguments = BadArguments
answer_of outcome.ReadFault = ReadFault
answer_of outcome.TooLong = TooLong
answer_of outcome.Memory = Memory

-- the status that tells it
abbrev pub status_of : Answer → ℕ
status_of (Shown text) = 0
status_of (Refused line) = 1
status_of BadArguments = 2
status_of ReadFault = 3
status_of Memory = 5
status_of TooLong = 6
