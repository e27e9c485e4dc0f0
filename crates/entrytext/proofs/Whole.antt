-- Every entry that is read lies in the listing.
use Rattle.std.proofs.Common.{◌≡◌, ◌∙◌, ℕ, Bool, true, false, List, ap, refl, subst}
use Rattle.std.specs.Prelude.{Option, Some, None, Result, Ok, Err, IfOk, if◌then◌else◌}
use Rattle.std.specs.Option.{option_to_list}
use Rattle.listing_lines.specs.Text.{Line}
use Rattle.line_reader.specs.Faults.{first_fault}
use Rattle.line_reader.specs.Reading.{concluded, progress}
use Rattle.line_reader.specs.Reading.Progress.{Going}
use Rattle.line_reader.specs.Reading.Read.{Bad, Good}
use Rattle.line_reader.specs.Reading.Step.{Goes}
use Rattle.line_reader.proofs.Faults.{fails_not, goes_same}
use Rattle.line_reader.proofs.Kept.{bad_not, good_same, read_keeps}
use Rattle.pcode_model.specs.declared.listing.Listing.{Listing}
use Rattle.pcode_model.specs.WellFormed.{IsWellFormed}
use Rattle.run_world.specs.declared.entry.Entry.{Entry}
use Rattle.entrytext.specs.declared.fault.EntryFault.{EntryFault}
use Rattle.entrytext.specs.declared.fault.EntryFault.TheVariants.{Syntax}
use Rattle.entrytext.specs.declared.fault.Why.{Why}
use Rattle.entrytext.specs.declared.form.Form.{Form}
use Rattle.entrytext.specs.declared.partial_entry.PartialEntry.{PartialEntry}
use Rattle.entrytext.specs.Faults.{faults}
use Rattle.entrytext.specs.Forms.{form_of}
use Rattle.entrytext.specs.Lies.{AnswerLiesIn, LiesIn}
use Rattle.entrytext.specs.Meaning.{after, entry_of, fault_at, finished, reading, start, step, stepped}
use Rattle.entrytext.proofs.Good.{form_good}
use Rattle.entrytext.proofs.Kept.{IsKept, all_joined, kept, last_all}

module _ (l : Listing) (formed : IsWellFormed l) where
  form_kept : (s t : PartialEntry) (f : Form) (fault : Option Why)
      → first_fault (faults l s f) ≡ fault
      → (first_fault (faults l s f) ≡ None → IsKept l (after s f))
      → stepped s f fault ≡ Goes t
      → IsKept l t
  form_kept s t f None is next e = subst (IsKept l) (goes_same _ _ e) (next is)
  form_kept s t f (Some why) is next e = absurd (fails_not why t e)

  step_kept : (s t : PartialEntry) (line : Line) → IsKept l s → step l s line ≡ Goes t → IsKept l t
  step_kept s t line k e =
      form_kept s t (form_of l line) _ refl (kept l s k (form_of l line) (form_good l formed line)) e

  start_kept : IsKept l start
  start_kept = record { state = tt; hidden = tt; done = tt; last = tt }

  entry_lies : (s : PartialEntry) → IsKept l s → LiesIn l (entry_of s)
  entry_lies s k = record {
    state = k.state;
    hidden = k.hidden;
    answers = all_joined (AnswerLiesIn l) s.done (option_to_list s.last) k.done (last_all l s.last k.last);
  }

  end_lies : (n : ℕ) (s : PartialEntry) (e : Entry) → IsKept l s → finished n s ≡ Good e → LiesIn l e
  end_lies n s e k = by_end s.ended
    where
      by_end : (ended : Bool) → (if ended then Good (entry_of s) else Bad (Syntax n)) ≡ Good e → LiesIn l e
      by_end false is = absurd (bad_not _ _ is)
      by_end true is = subst (LiesIn l) (good_same _ _ is) (entry_lies s k)

  -- what a text says lies in the listing
  pub read_lies : (bytes : List ℕ) (e : Entry) → reading l bytes ≡ Good e → LiesIn l e
  read_lies = read_keeps (step l) (IsKept l) step_kept fault_at finished (LiesIn l) end_lies start start_kept

  -- what the end of a text gives lies in the listing, where the text is read from the start
  pub result_lies : (bytes : List ℕ) (begin s : PartialEntry) (n : ℕ) (result : Result Entry EntryFault)
      → begin ≡ start
      → progress (step l) begin bytes ≡ Going n s
      → IfOk result (λ e. finished n s ≡ Good e)
      → IfOk result (LiesIn l)
  result_lies bytes begin s n (Ok e) begins going good =
      let P : PartialEntry → Type 0 = λ b. progress (step l) b bytes ≡ Going n s in
      read_lies bytes e (ap (concluded fault_at finished) (subst P begins going) ∙ good)
  result_lies bytes begin s n (Err fault) begins going good = tt
