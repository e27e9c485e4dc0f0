-- Which inputs are accepted, why the others are refused, and what may be printed. This project's own.
-- The order of refusals: faults of the text, faults of ops, not built, faults of the flow, too many blocks, too many atoms.
use Rattle.std.specs.Prelude.{◌≡◌, ℕ, ◌≤◌, [], Some, ⊤}
use Rattle.pcode_model.specs.declared.frame.Frame.{Frame}
use Rattle.pcode_model.specs.declared.listing.Listing.{Listing}
use Rattle.pcode_model.specs.Flow.{NoFault}
use Rattle.pcode_model.specs.Frame.{frame_of}
use Rattle.pcode_model.specs.Limits.{max_atoms}
use Rattle.pcode_model.specs.Rules.{first_bad}
use Rattle.pcodetext.specs.Meaning.{Good, Bad, reading}
use Rattle.frame_facts.specs.Listed.{IsFrame}
use Rattle.supported.specs.Supported.{HasBuiltOps}
use Rattle.flow.specs.Answer.{IsFlowFault}
use Rattle.flow.specs.declared.answer.FlowFault.TheVariants as flow
use Rattle.stackvars.specs.Cuts as cuts
use Rattle.stackvars.specs.Cuts.{HasSoMany}
use Rattle.stackvars.specs.declared.fault.AtomFault.{AtomFault}
use Rattle.stackvars.specs.declared.fault.AtomFault.TheVariants as atoms
use Rattle.refusals.specs.Good.{Bytes, HasFewBlocks, IsGood, RefusedBy}
use Rattle.refusals.specs.declared.refusal.Refusal.{Refusal}
use Rattle.refusals.specs.declared.refusal.Refusal.TheVariants as refusal
use Rattle.cmeaning.specs.declared.tree.CFunction.{CFunction}
use Rattle.cmeaning.specs.Agree.{AgreesWith}
use Rattle.cmeaning.specs.Fits.{Fits}
use Rattle.cmeaning.specs.Valid.{IsValid}
use Rattle.ctext.specs.Text.{text_of}
use Rattle.pipeline.specs.PlainForm.{IsPlainForm}

-- so many atoms, with those of the listing's frame
abbrev pub HasAtoms : Listing → ℕ → Type 0
HasAtoms l n = (frame : Frame) × (IsFrame l [] [] frame × HasSoMany l frame n)

-- why the atoms are refused, with those of the listing's frame
abbrev pub IsAtomFault : Listing → AtomFault → Type 0
IsAtomFault l fault = (frame : Frame) × (IsFrame l [] [] frame × cuts.IsCause l frame fault)

-- the input is a listing that is built, no place of its flow has a fault, and there are not too many blocks and atoms
pub record Accepts (bytes : Bytes) (l : Listing) : Type 0 where
  pub good : IsGood bytes l
  pub built : HasBuiltOps l
  pub flow : NoFault l []
  pub blocks : HasFewBlocks l
  pub atoms : (n : ℕ) × (HasAtoms l n × (n ≤ max_atoms))

abbrev pub IsAccepted : Bytes → Type 0
IsAccepted bytes = (l : Listing) × Accepts bytes l

-- this is the first fault of the input
abbrev pub IsRefused : Bytes → Refusal → Type 0
IsRefused bytes (refusal.Text fault) = reading bytes ≡ Bad fault
IsRefused bytes (refusal.Op fault) = (l : Listing) × ((reading bytes ≡ Good l) × (first_bad l ≡ Some fault))
IsRefused bytes refusal.NotBuilt = RefusedBy bytes (λ l. HasBuiltOps l → ⊥)
IsRefused bytes (refusal.Flow flow.Memory) = ⊥
IsRefused bytes (refusal.Flow fault) = RefusedBy bytes (λ l. HasBuiltOps l × IsFlowFault l [] fault)
IsRefused bytes (refusal.Atoms atoms.Memory) = ⊥
IsRefused bytes (refusal.Atoms fault) =
    RefusedBy bytes (λ l. HasBuiltOps l × (NoFault l [] × (HasFewBlocks l × IsAtomFault l fault)))
IsRefused bytes refusal.Memory = ⊥

-- a refusal of the input, unless memory ran out
abbrev pub IsCause : Bytes → Refusal → Type 0
IsCause bytes refusal.Memory = ⊤
IsCause bytes fault = IsRefused bytes fault

-- why a good listing that is built isn't accepted
abbrev pub Stops : Listing → Refusal → Type 0
Stops l (refusal.Flow flow.Memory) = ⊥
Stops l (refusal.Flow fault) = IsFlowFault l [] fault
Stops l (refusal.Atoms atoms.Memory) = ⊥
Stops l (refusal.Atoms fault) = NoFault l [] × (HasFewBlocks l × IsAtomFault l fault)
Stops l refusal.Memory = ⊤
Stops l _ = ⊥

-- The text of a valid C function that fits the listing of the input, agrees with it for the listing's frame, and is of the
-- plain form: for every entry and every number of steps, what either run shows the other shows too.
pub record MayPrint (bytes text : Bytes) : Type 0 where
  pub listing : Listing
  pub read : reading bytes ≡ Good listing
  pub frame : Frame
  pub is_frame : IsFrame listing [] [] frame
  pub function : CFunction
  pub valid : IsValid function
  pub fits : Fits listing function
  pub agrees : AgreesWith listing (frame_of listing frame) function
  pub form : IsPlainForm listing frame function
  pub is : text ≡ text_of function
