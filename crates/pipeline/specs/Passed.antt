-- What is known of a listing that is accepted, and what it is lowered to. This project's own.
use Rattle.std.specs.Prelude.{◌≡◌, ◌≤◌, [], length, None}
use Rattle.pcode_model.specs.declared.listing.Listing.{Listing}
use Rattle.pcode_model.specs.Flow.{IsFlow, NoFault}
use Rattle.pcode_model.specs.Frame.{frame_of}
use Rattle.pcode_model.specs.declared.frame.Frame.{Frame}
use Rattle.pcode_model.specs.Atoms.{AreAtoms}
use Rattle.pcode_model.specs.Limits.{max_atoms, max_blocks}
use Rattle.pcode_model.specs.Rules.{first_bad}
use Rattle.pcode_model.specs.WellFormed.{IsWellFormed}
use Rattle.frame_facts.specs.Listed.{IsFrame}
use Rattle.supported.specs.Supported.{HasBuiltOps}
use Rattle.cmeaning.specs.declared.tree.CFunction.{CFunction}
use Rattle.cmeaning.specs.Agree.{AgreesWith}
use Rattle.cmeaning.specs.Fits.{Fits}
use Rattle.cmeaning.specs.Valid.{IsValid}
use Rattle.pipeline.specs.PlainForm.{IsPlainForm}
use Rattle.pipeline.specs.declared.verdict.Accepted.{Accepted}

-- A listing that was read, whose ops obey their rules and that is built, its blocks, its frame and its atoms; no place of
-- its flow has a fault.
pub record HasPassed (a : Accepted) : Type 0 where
  pub read : IsWellFormed a.listing
  pub ops : first_bad a.listing ≡ None
  pub built : HasBuiltOps a.listing
  pub blocks : IsFlow a.listing [] a.flow
  pub no_fault : NoFault a.listing []
  pub few_blocks : length a.flow ≤ max_blocks
  pub frame : IsFrame a.listing [] [] a.frame
  pub atoms : AreAtoms a.listing [] a.frame a.atoms
  pub few_atoms : length a.atoms ≤ max_atoms

-- a valid tree that fits the listing, means what it means with this frame, and is of the plain form
pub record Lowers (l : Listing) (frame : Frame) (f : CFunction) : Type 0 where
  pub valid : IsValid f
  pub fits : Fits l f
  pub agrees : AgreesWith l (frame_of l frame) f
  pub form : IsPlainForm l frame f
