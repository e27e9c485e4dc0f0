-- The pieces of the line of a well-formed listing are its atoms.
use Rattle.std.proofs.Common.{◌≡◌, ◌∙◌, ℕ, ◌<◌, List, [], ap, length, subst, sym, None}
use Rattle.std.specs.List.{AllByRecursion}
use Rattle.pcode_model.specs.declared.listing.Listing.{Listing}
use Rattle.pcode_model.specs.declared.flow.Block.{Block}
use Rattle.pcode_model.specs.declared.frame.Frame.{Frame}
use Rattle.pcode_model.specs.declared.atoms.Atom.{Atom}
use Rattle.pcode_model.specs.Flow.{IsFlow}
use Rattle.pcode_model.specs.Atoms.{AreAtoms}
use Rattle.pcode_model.specs.Limits.{max_atoms}
use Rattle.pcode_model.specs.Rules.{first_bad}
use Rattle.pcode_model.specs.WellFormed.{IsWellFormed}
use Rattle.stackvars.specs.declared.fault.AtomFault.{AtomFault}
use Rattle.stackvars.specs.declared.fault.AtomFault.TheVariants.{TooManyAtoms, Memory}
use Rattle.stackvars.specs.declared.sweep.Mark.{Mark}
use Rattle.stackvars.specs.declared.sweep.Piece.{Piece}
use Rattle.stackvars.specs.Collected.{collected}
use Rattle.stackvars.specs.Cuts.{Counts, Fits, IsCause, atoms_of, marks}
use Rattle.stackvars.specs.Near.{HasNearAccesses}
use Rattle.stackvars.specs.Sweep.{ArePieces}
use Rattle.stackvars.proofs.Placed.{all_fit, are_atoms}
use Rattle.stackvars.proofs.Reach.{in_reach, spaces_differ}

module _
    (l : Listing)
    (bs : List Block)
    (flow : IsFlow l [] bs)
    (read : IsWellFormed l)
    (checked : first_bad l ≡ None)
    (f : Frame)
    (near : HasNearAccesses f)
    (xs : List Atom)
    (accessed : xs ≡ collected l bs f)
    (ms : List Mark)
    (marked : ms ≡ marks l xs)
    (ps : List Piece)
    (are : ArePieces ms ps) where
  of_line : ArePieces (marks l (collected l bs f)) ps
  of_line = subst (λ (ns : List Mark). ArePieces ns ps) (marked ∙ ap (λ (zs : List Atom). marks l zs) accessed) are

  -- Each piece is one of storage.
  pub found_fit : AllByRecursion Fits ps
  found_fit = all_fit l bs flow (spaces_differ l read) f (in_reach l read checked f near) ps of_line

  -- The pieces' ranges are the atoms.
  pub found_atoms : AreAtoms l [] f (atoms_of ps)
  found_atoms = are_atoms l bs flow (spaces_differ l read) f (in_reach l read checked f near) ps of_line

pub is_cause : (l : Listing) (f : Frame) (xs : List Atom) (n : ℕ) (fault : AtomFault)
    → AreAtoms l [] f xs
    → n ≡ length xs
    → max_atoms < n
    → Counts n fault
    → IsCause l f fault
is_cause l f xs n (TooManyAtoms m) are e many h =
    let P : ℕ → Type 0 = λ k. max_atoms < k in
    ((xs, (are, sym (h ∙ e))), subst P (sym h) many)
is_cause l f xs n Memory are e many h = tt
