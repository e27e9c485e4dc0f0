-- The plain form of a listing's C function: its name, its result, its parameters and what it calls. This project's own.
use Rattle.std.specs.Prelude.{◌≡◌, List, [], None}
use Rattle.std.specs.List.{AllByRecursion}
use Rattle.std.specs.Option.{option_map}
use Rattle.bits_core.specs.declared.word.Width.{Width}
use Rattle.pcode_model.specs.declared.atoms.Atom.{Atom}
use Rattle.pcode_model.specs.declared.frame.Frame.{Frame}
use Rattle.pcode_model.specs.declared.listing.Listing.{Listing}
use Rattle.pcode_model.specs.declared.listing.Varnode.{Varnode}
use Rattle.pcode_model.specs.Atoms.{AreAtoms}
use Rattle.pcode_model.specs.Step.{proto_of}
use Rattle.cmeaning.specs.declared.tree.CFunction.{CFunction}
use Rattle.plain_valid.specs.Declared.{IsDeclaredBy}
use Rattle.plain_valid.specs.Inputs.{AreInputs}

pub record IsPlainForm (l : Listing) (frame : Frame) (f : CFunction) : Type 0 where
  -- it has the listing's name
  pub name : f.name ≡ l.func.name
  -- it has a result exactly where the function's prototype has one, of the same width
  pub gives : option_map (λ (width : Width). width.bytes) f.gives ≡ option_map (λ (range : Varnode). range.size) (proto_of l None).gives
  -- its parameters are one for each atom of the listing with this frame, in their order
  pub params : (atoms : List Atom) × (AreAtoms l [] frame atoms × AreInputs atoms f.params)
  -- its callees are declared as the listing says: by name, widths, and whether they return
  pub callees : AllByRecursion (IsDeclaredBy l) f.callees
