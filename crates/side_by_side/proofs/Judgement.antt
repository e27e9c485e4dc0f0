-- What the inputs come to, from their parts.
use Rattle.std.proofs.Common.{◌≡◌, ℕ, subst, sym}
use Rattle.pcode_model.specs.declared.listing.Listing.{Listing}
use Rattle.cmeaning.specs.declared.tree.CFunction.{CFunction}
use Rattle.run_world.specs.declared.entry.Entry.{Entry}
use Rattle.runwords.specs.declared.files.Inputs.{Inputs}
use Rattle.statuses.specs.Answer as answer
use Rattle.statuses.specs.Answer.{Answer}
use Rattle.runwords.specs.Table.{IsJudged}
use Rattle.side_by_side.specs.Judged.{Faults, IsCause, IsLine, IsParsed, IsTold, Shows}
use Rattle.side_by_side.specs.declared.input_fault.InputFault.{InputFault}
use Rattle.side_by_side.specs.declared.input_fault.InputFault.TheVariants as input_fault

pub shows : (i : Inputs) (l : Listing) (f : CFunction) (e : Entry) (n : ℕ) (o : Answer)
    → IsParsed i l f e
    → IsTold l f e n o
    → IsJudged Shows Faults i n o
shows i l f e n (answer.Shown text) parsed told = (l, (f, (e, (parsed, told))))
shows i l f e n (answer.Refused line) parsed told = absurd told
shows i l f e n answer.BadArguments parsed told = absurd told
shows i l f e n answer.ReadFault parsed told = absurd told
shows i l f e n answer.TooLong parsed told = absurd told
shows i l f e n answer.Memory parsed told = tt

memory_only : (i : Inputs) (n : ℕ) (o : Answer) → o ≡ answer.Memory → IsJudged Shows Faults i n o
memory_only i n o e = subst (IsJudged Shows Faults i n) (sym e) tt

pub faulty : (i : Inputs) (n : ℕ) (w : InputFault) (o : Answer) → IsCause i w → IsLine w o → IsJudged Shows Faults i n o
faulty i n input_fault.Memory o cause line = memory_only i n o line
faulty i n (input_fault.Listing fault) (answer.Refused text) cause line = (input_fault.Listing fault, (cause, line))
faulty i n (input_fault.Listing fault) answer.Memory cause line = tt
faulty i n (input_fault.Listing fault) (answer.Shown text) cause line = absurd line
faulty i n (input_fault.Listing fault) answer.BadArguments cause line = absurd line
faulty i n (input_fault.Listing fault) answer.ReadFault cause line = absurd line
faulty i n (input_fault.Listing fault) answer.TooLong cause line = absurd line
faulty i n input_fault.NotC (answer.Refused text) cause line = (input_fault.NotC, (cause, line))
faulty i n input_fault.NotC answer.Memory cause line = tt
faulty i n input_fault.NotC (answer.Shown text) cause line = absurd line
faulty i n input_fault.NotC answer.BadArguments cause line = absurd line
faulty i n input_fault.NotC answer.ReadFault cause line = absurd line
faulty i n input_fault.NotC answer.TooLong cause line = absurd line
faulty i n input_fault.Misfit (answer.Refused text) cause line = (input_fault.Misfit, (cause, line))
faulty i n input_fault.Misfit answer.Memory cause line = tt
faulty i n input_fault.Misfit (answer.Shown text) cause line = absurd line
faulty i n input_fault.Misfit answer.BadArguments cause line = absurd line
faulty i n input_fault.Misfit answer.ReadFault cause line = absurd line
faulty i n input_fault.Misfit answer.TooLong cause line = absurd line
faulty i n (input_fault.Entry fault) (answer.Refused text) cause line = (input_fault.Entry fault, (cause, line))
faulty i n (input_fault.Entry fault) answer.Memory cause line = tt
faulty i n (input_fault.Entry fault) (answer.Shown text) cause line = absurd line
faulty i n (input_fault.Entry fault) answer.BadArguments cause line = absurd line
faulty i n (input_fault.Entry fault) answer.ReadFault cause line = absurd line
faulty i n (input_fault.Entry fault) answer.TooLong cause line = absurd line
