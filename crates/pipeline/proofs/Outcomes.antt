-- What an input comes to, and the table of a call.
use Rattle.std.proofs.Common.{◌≡◌, ℕ, List, Option, Some, None, Result, Err, subst, sym}
use Rattle.outside.specs.declared.reading.ReadEnd.{ReadEnd}
use Rattle.outside.specs.declared.reading.ReadEnd.TheVariants.{Memory}
use Rattle.pcode_model.specs.Limits.{max_input}
use Rattle.pcodetext.specs.Meaning.{reading}
use Rattle.pcodetext.specs.Reader.{IsFaultOf}
use Rattle.pcodetext.specs.declared.fault.TextFault.{TextFault}
use Rattle.pcodetext.specs.declared.fault.TextFault.TheVariants as T
use Rattle.statuses.specs.Answer as answer
use Rattle.statuses.specs.Answer.{Answer}
use Rattle.statuses.specs.Delivery.{Delivers}
use Rattle.statuses.proofs.Cause.{settled}
use Rattle.statuses.proofs.Fetched.{fetched_whole}
use Rattle.statuses.proofs.Table as any
use Rattle.statuses.proofs.Told.{came_whole}
use Rattle.refusals.specs.Good.{Bytes}
use Rattle.refusals.specs.Refused.{of_text}
use Rattle.refusals.specs.declared.refusal.Refusal.{Refusal}
use Rattle.refusals.specs.declared.refusal.Refusal.TheVariants as R
use Rattle.pipeline.specs.declared.request.Form.{Form}
use Rattle.pipeline.specs.declared.request.Form.TheVariants.{C, Listing, Plain}
use Rattle.pipeline.specs.Cause.{Because, CauseAt, Faults, IsConverted, IsRefusal, Shows}
use Rattle.pipeline.specs.Request.{Numbers, Prints, Wanted}
use Rattle.pipeline.specs.Table.{Came, Facts, FileCame, FileTold, IsTold, Outside, Sources, Table, due, file_due, program}
use Rattle.pipeline.specs.Verdict.{IsCause}
use Rattle.pipeline.proofs.Verdicts.{never_both}

-- ---- why an input is refused

-- A refusal of an input is its first fault, and the input isn't accepted.
pub accepted_never : (bytes : Bytes) (fault : Refusal) → IsCause bytes fault → CauseAt C bytes fault
accepted_never bytes R.Memory cause = tt
accepted_never bytes (R.Text fault) cause = (cause, (λ fine. never_both bytes (R.Text fault) fine cause))
accepted_never bytes (R.Op fault) cause = (cause, (λ fine. never_both bytes (R.Op fault) fine cause))
accepted_never bytes R.NotBuilt cause = (cause, (λ fine. never_both bytes R.NotBuilt fine cause))
accepted_never bytes (R.Flow fault) cause = (cause, (λ fine. never_both bytes (R.Flow fault) fine cause))
accepted_never bytes (R.Atoms fault) cause = (cause, (λ fine. never_both bytes (R.Atoms fault) fine cause))

pub plain_never : (bytes : Bytes) (fault : Refusal) → CauseAt C bytes fault → CauseAt Plain bytes fault
plain_never bytes R.Memory cause = cause
plain_never bytes (R.Text fault) cause = cause
plain_never bytes (R.Op fault) cause = cause
plain_never bytes R.NotBuilt cause = cause
plain_never bytes (R.Flow fault) cause = cause
plain_never bytes (R.Atoms fault) cause = cause

-- a fault of the text, where the canonical text is wanted
pub text_refused : (bytes : Bytes) (fault : TextFault)
    → IsFaultOf (reading bytes) fault
    → CauseAt Listing bytes (of_text fault)
text_refused bytes (T.Syntax n) is = is
text_refused bytes (T.Version n) is = is
text_refused bytes (T.Duplicate n) is = is
text_refused bytes (T.Unknown n) is = is
text_refused bytes (T.Range n) is = is
text_refused bytes (T.Order n) is = is
text_refused bytes T.Memory is = tt

-- What the line of a refusal says of an input that was read.
pub refused_so : (form : Form) (bytes : Bytes) (fault : Refusal) (o : Answer)
    → CauseAt form bytes fault
    → IsRefusal fault o
    → IsConverted form bytes o
refused_so form bytes R.Memory o cause is = subst (IsConverted form bytes) (sym is) tt
refused_so form bytes (R.Text fault) (answer.Refused line) cause is = ((R.Text fault), (cause, is))
refused_so form bytes (R.Text fault) answer.Memory cause is = tt
refused_so form bytes (R.Text fault) (answer.Shown text) cause is = absurd is
refused_so form bytes (R.Text fault) answer.BadArguments cause is = absurd is
refused_so form bytes (R.Text fault) answer.ReadFault cause is = absurd is
refused_so form bytes (R.Text fault) answer.TooLong cause is = absurd is
refused_so form bytes (R.Op fault) (answer.Refused line) cause is = ((R.Op fault), (cause, is))
refused_so form bytes (R.Op fault) answer.Memory cause is = tt
refused_so form bytes (R.Op fault) (answer.Shown text) cause is = absurd is
refused_so form bytes (R.Op fault) answer.BadArguments cause is = absurd is
refused_so form bytes (R.Op fault) answer.ReadFault cause is = absurd is
refused_so form bytes (R.Op fault) answer.TooLong cause is = absurd is
refused_so form bytes R.NotBuilt (answer.Refused line) cause is = (R.NotBuilt, (cause, is))
refused_so form bytes R.NotBuilt answer.Memory cause is = tt
refused_so form bytes R.NotBuilt (answer.Shown text) cause is = absurd is
refused_so form bytes R.NotBuilt answer.BadArguments cause is = absurd is
refused_so form bytes R.NotBuilt answer.ReadFault cause is = absurd is
refused_so form bytes R.NotBuilt answer.TooLong cause is = absurd is
refused_so form bytes (R.Flow fault) (answer.Refused line) cause is = ((R.Flow fault), (cause, is))
refused_so form bytes (R.Flow fault) answer.Memory cause is = tt
refused_so form bytes (R.Flow fault) (answer.Shown text) cause is = absurd is
refused_so form bytes (R.Flow fault) answer.BadArguments cause is = absurd is
refused_so form bytes (R.Flow fault) answer.ReadFault cause is = absurd is
refused_so form bytes (R.Flow fault) answer.TooLong cause is = absurd is
refused_so form bytes (R.Atoms fault) (answer.Refused line) cause is = ((R.Atoms fault), (cause, is))
refused_so form bytes (R.Atoms fault) answer.Memory cause is = tt
refused_so form bytes (R.Atoms fault) (answer.Shown text) cause is = absurd is
refused_so form bytes (R.Atoms fault) answer.BadArguments cause is = absurd is
refused_so form bytes (R.Atoms fault) answer.ReadFault cause is = absurd is
refused_so form bytes (R.Atoms fault) answer.TooLong cause is = absurd is

-- ---- the table

-- What came of reading is what must come, unless memory ran out.
file_is : (file : Option (List ℕ)) (before after : Sources) (facts : Facts)
    → FileTold file before after facts
    → (came : Result Bytes ReadEnd)
    → FileCame file before after came
    → (came ≡ Err Memory → ⊥)
    → came ≡ file_due facts file
file_is None before after facts told came read not =
    came_whole max_input before.input after.input facts.bytes told.1 told.0 came read not
file_is (Some name) before after facts told came read not =
    fetched_whole max_input facts.files name before.shelf after.shelf told.1 told.0 came read not

came_is : (w : Wanted) (before after : Sources) (facts : Facts)
    → IsTold (Some w) before after facts
    → (came : Result Bytes ReadEnd)
    → Came before after w came
    → (came ≡ Err Memory → ⊥)
    → came ≡ due facts w
came_is (Prints form file) before after facts told came read not = file_is file before after facts told came read not
came_is (Numbers n) before after facts told came read not = read

-- The table of a call that came to an answer by what it read, and delivered it.
pub table : (asked : Option Wanted) (before after : Outside) (o : Answer) (status : ℕ)
    → Because asked (Came before.sources after.sources) o
    → Delivers program o before.out after.out before.err after.err status
    → Table asked before after status
table asked before after o status why told =
    any.table program before.out after.out before.err after.err (Because asked (Came before.sources after.sources))
    (IsTold asked before.sources after.sources) (λ facts. Because asked (λ w came. came ≡ due facts w))
    (λ facts known. settled Shows Faults asked (Came before.sources after.sources)
    (λ w came. came ≡ due facts w)
    (λ w is came read not. came_is w before.sources after.sources facts
    (subst (λ (a : Option Wanted). IsTold a before.sources after.sources facts) is known) came read not))
    o status why told
