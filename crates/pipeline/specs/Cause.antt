-- What an input shows, and why it is refused. This project's own.
use Rattle.std.specs.Prelude.{◌≡◌, ℕ, [], Option, Result, ⊤}
use Rattle.outside.specs.declared.reading.ReadEnd.{ReadEnd}
use Rattle.statuses.specs.Answer as answer
use Rattle.statuses.specs.Answer.{Answer}
use Rattle.statuses.specs.Cause as cause
use Rattle.pcodetext.specs.Meaning.{Bad, reading}
use Rattle.listing_again.specs.Again.{IsCanonicalOf}
use Rattle.refusals.specs.Good.{Bytes}
use Rattle.refusals.specs.declared.refusal.Refusal.{Refusal}
use Rattle.refusals.specs.declared.refusal.Refusal.TheVariants as refusal
use Rattle.pipeline.specs.declared.request.Form.{Form}
use Rattle.pipeline.specs.declared.request.Form.TheVariants.{C, Plain, Listing}
use Rattle.pipeline.specs.Message.{line_of}
use Rattle.pipeline.specs.Numbers.{AreNumbersOf}
use Rattle.pipeline.specs.Request.{Numbers, Prints, Wanted}
use Rattle.pipeline.specs.Verdict.{IsAccepted, IsRefused, MayPrint}

-- ---- by the form

-- The text of the input. C: the input is accepted, and may be printed so; Plain: the same. Listing: it is the canonical
-- text.
abbrev pub ShowsAt : Form → Bytes → Bytes → Type 0
ShowsAt C bytes text = IsAccepted bytes × MayPrint bytes text
ShowsAt Plain bytes text = IsAccepted bytes × MayPrint bytes text
ShowsAt Listing bytes text = IsCanonicalOf bytes text

-- only faults of the text refuse a canonical text
abbrev pub IsTextFault : Bytes → Refusal → Type 0
IsTextFault bytes (refusal.Text fault) = reading bytes ≡ Bad fault
IsTextFault bytes _ = ⊥

-- this is the input's first fault
abbrev pub RefusedAt : Form → Bytes → Refusal → Type 0
RefusedAt C bytes fault = IsRefused bytes fault × (IsAccepted bytes → ⊥)
RefusedAt Plain bytes fault = IsRefused bytes fault × (IsAccepted bytes → ⊥)
RefusedAt Listing bytes fault = IsTextFault bytes fault

-- the same, unless memory ran out
abbrev pub CauseAt : Form → Bytes → Refusal → Type 0
CauseAt form bytes refusal.Memory = ⊤
CauseAt form bytes fault = RefusedAt form bytes fault

-- this line names the input's first fault
abbrev pub FaultsAt : Form → Bytes → Bytes → Type 0
FaultsAt form bytes line = (fault : Refusal) × (RefusedAt form bytes fault × (line ≡ line_of fault))

-- what an input that was read comes to
abbrev pub IsConverted : Form → Bytes → Answer → Type 0
IsConverted form bytes o = cause.Judges ShowsAt FaultsAt form bytes o

-- ---- by what is wanted

abbrev pub Shows : Wanted → Bytes → Bytes → Type 0
Shows (Prints form file) bytes text = ShowsAt form bytes text
Shows (Numbers n) bytes text = AreNumbersOf n text

-- the numbers of a generated listing are never refused
abbrev pub Faults : Wanted → Bytes → Bytes → Type 0
Faults (Prints form file) bytes line = FaultsAt form bytes line
Faults (Numbers n) bytes line = ⊥

-- what the numbers of a generated listing come to
abbrev pub AreCounted : ℕ → Answer → Type 0
AreCounted n o = cause.Judges Shows Faults (Numbers n) [] o

-- why a call comes to an answer, where reading the input gives this
abbrev pub Because : Option Wanted → (Wanted → Result Bytes ReadEnd → Type 0) → Answer → Type 0
Because asked reads o = cause.Because Shows Faults asked reads o

-- the line of a refusal, unless memory ran out
abbrev pub IsRefusal : Refusal → Answer → Type 0
IsRefusal refusal.Memory o = o ≡ answer.Memory
IsRefusal fault (answer.Refused line) = line ≡ line_of fault
IsRefusal fault answer.Memory = ⊤
IsRefusal fault _ = ⊥
