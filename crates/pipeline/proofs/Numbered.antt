-- Generated listings: each is accepted, and its numbers are those of what was made of it.
use Rattle.std.proofs.Common.{◌≡◌, ◌∙◌, ℕ, List, [], length, None, ap, refl, sym, subst, arith}
use Rattle.pcode_model.specs.declared.flow.FlowWhy.TheVariants as W
use Rattle.pcode_model.specs.declared.listing.Listing.{Listing}
use Rattle.pcode_model.specs.Atoms.{AreAtoms}
use Rattle.pcode_model.specs.Flow.{IsFlow, starts_of}
use Rattle.pcode_model.specs.Frame.{no_variables}
use Rattle.pcode_model.specs.Rules.{first_bad}
use Rattle.pcode_model.specs.WellFormed.{IsWellFormed}
use Rattle.pcodetext.proofs.Whole.{is_well_formed}
use Rattle.pcodetext.specs.Meaning.{Good, reading}
use Rattle.supported.specs.Supported.{HasBuiltOps}
use Rattle.flow.specs.declared.answer.FlowFault.TheVariants as F
use Rattle.flow.proofs.Built.{blocks_listed}
use Rattle.stackvars.proofs.Built.{atoms_listed}
use Rattle.stackvars.specs.declared.fault.AtomFault.TheVariants as A
use Rattle.refusals.specs.declared.refusal.Refusal.{Refusal}
use Rattle.refusals.specs.declared.refusal.Refusal.TheVariants as R
use Rattle.cmeaning.specs.declared.tree.CFunction.{CFunction}
use Rattle.ctext.specs.Text.{text_of}
use Rattle.generator.specs.Generated.{generated, generated_text}
use Rattle.generator_laws.specs.Taken.{IsTaken}
use Rattle.generator_laws.proofs.Whole.{generated_taken}
use Rattle.generator_again.proofs.Text.{generated_read}
use Rattle.summary.specs.Counts.{counts_of, lines_of}
use Rattle.pipeline.specs.declared.verdict.Accepted.{Accepted}
use Rattle.pipeline.specs.Numbers.{AreNumbersOf}
use Rattle.pipeline.specs.Passed.{HasPassed, Lowers}
use Rattle.pipeline.specs.Verdict.{Accepts, Stops}
use Rattle.frame_facts.specs.Listed.{IsFrame}
use Rattle.frame_facts.proofs.Whole.{without_pointer}
use Rattle.pipeline.proofs.Forms.{may_print}
use Rattle.pipeline.proofs.Verdicts.{atoms_by}

-- what nothing refuses stops for want of memory alone
taken_never_stops : (l : Listing) → IsTaken l → (fault : Refusal) → Stops l fault → fault ≡ R.Memory
taken_never_stops l taken (R.Text fault) h = absurd h
taken_never_stops l taken (R.Op fault) h = absurd h
taken_never_stops l taken R.NotBuilt h = absurd h
taken_never_stops l taken (R.Flow (F.NoTarget p)) h = absurd (taken.flow p W.NoTarget h.here)
taken_never_stops l taken (R.Flow (F.FallsOff p)) h = absurd (taken.flow p W.FallsOff h.here)
taken_never_stops l taken (R.Flow (F.BadRelative p)) h = absurd (taken.flow p W.BadRelative h.here)
taken_never_stops l taken (R.Flow (F.NoTable p)) h = absurd (taken.flow p W.NoTable h.here)
taken_never_stops l taken (R.Flow (F.TableEntered p)) h = absurd (taken.flow p W.TableEntered h.here)
taken_never_stops l taken (R.Flow (F.TooManyBlocks n)) (fine, (starts, (are, (count, many)))) =
    let few = taken.blocks starts are in absurd (omega (arith, few, count, many))
taken_never_stops l taken (R.Flow F.Memory) h = absurd h
taken_never_stops l taken (R.Atoms (A.TooManyAtoms n)) (fine, (blocks, (frame, (is, ((atoms, (are, count)), many))))) =
    let none = without_pointer l [] [] taken.stack in
    let few = taken.atoms atoms (atoms_by l frame no_variables is none atoms are) in
    absurd (omega (arith, few, count, many))
taken_never_stops l taken (R.Atoms A.Memory) h = absurd h
taken_never_stops l taken R.Memory h = refl

module _ (number : ℕ) (l : Listing) (is : l ≡ generated number) where
  taken : IsTaken l
  taken = subst IsTaken (sym is) (generated_taken number)

  read : reading (generated_text number) ≡ Good l
  read = subst (λ (x : Listing). reading (generated_text number) ≡ Good x) (sym is) (generated_read number)

  pub formed : IsWellFormed l
  formed = is_well_formed (generated_text number) l read

  pub obeys : first_bad l ≡ None
  obeys = taken.ops

  -- Only want of memory stops the passes.
  pub never_stops : (fault : Refusal) → Stops l fault → fault ≡ R.Memory
  never_stops fault h = taken_never_stops l taken fault h

  pub built : HasBuiltOps l
  built = taken.built

-- Every generated listing is accepted: its text is read as it, no check refuses it, and its blocks and atoms are so many.
pub accepted : (number : ℕ) → Accepts (generated_text number) (generated number)
accepted number =
    let l = generated number in
    let t : IsTaken l = generated_taken number in
    let formed : IsWellFormed l = is_well_formed (generated_text number) l (generated_read number) in
    let blocks = blocks_listed l formed.apart t.flow in
    let atoms = atoms_listed l blocks.0 blocks.1 formed t.ops no_variables tt in
    let few = t.blocks (starts_of blocks.0) blocks.1.starts in
    let so_few = t.atoms atoms.0 atoms.1 in
    record {
      good = record { read = generated_read number; ops = t.ops };
      built = t.built;
      flow = t.flow;
      blocks = (starts_of blocks.0, (blocks.1.starts, omega (arith, few)));
      atoms = (
        length atoms.0,
        ((no_variables, (without_pointer l [] [] t.stack, (atoms.0, (atoms.1, refl)))), omega (arith, so_few)),
      );
    }

-- The lines of what was made of the listing with this number.
pub numbers_of : (number : ℕ) (a : Accepted) (lines : List ℕ) (f : CFunction)
    → a.listing ≡ generated number
    → HasPassed a
    → Lowers a.listing a.frame f
    → lines ≡ lines_of (counts_of a.listing (length a.flow) (length a.atoms) f (text_of f))
    → AreNumbersOf number lines
unfolding may_print
numbers_of number a lines f is passed lowers are = record {
  blocks = a.flow;
  are_blocks = subst (λ (l : Listing). IsFlow l [] a.flow) is passed.blocks;
  atoms = a.atoms;
  frame = a.frame;
  is_frame = subst (λ (l : Listing). IsFrame l [] [] a.frame) is passed.frame;
  are_atoms = subst (λ (l : Listing). AreAtoms l [] a.frame a.atoms) is passed.atoms;
  text = text_of f;
  printed = may_print (generated_text number) (text_of f) a.listing a.frame f (read number a.listing is) passed.frame
      lowers refl;
  are = are ∙ ap (λ (l : Listing). lines_of (counts_of l (length a.flow) (length a.atoms) f (text_of f))) is;
}
