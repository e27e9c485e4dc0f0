-- A supported listing with its frame, its blocks and its atoms has all that the plain lowering's theorem asks for.
use Rattle.std.proofs.Common.{◌≡◌, ◌≤◌, List, [], None, length, refl, inl, inr, arith}
use Rattle.pcode_model.specs.declared.atoms.Atom.{Atom}
use Rattle.pcode_model.specs.declared.flow.Block.{Block}
use Rattle.pcode_model.specs.declared.frame.Frame.{Frame}
use Rattle.pcode_model.specs.declared.frame.FrameAccess.{FrameAccess}
use Rattle.pcode_model.specs.declared.listing.Place.{Place}
use Rattle.pcode_model.specs.declared.listing.Varnode.{Varnode}
use Rattle.pcode_model.specs.declared.listing.Listing.{Listing}
use Rattle.pcode_model.specs.declared.storage.ParamStorage.TheVariants as P
use Rattle.pcode_model.specs.Atoms.{Accesses, AreAtoms, range}
use Rattle.pcode_model.specs.Flow.{IsFlow, IsIn, NoFault}
use Rattle.pcode_model.specs.Frame.{frame_of}
use Rattle.pcode_model.specs.Rules.{first_bad}
use Rattle.pcode_model.specs.Spaces.{register_space, unique_space}
use Rattle.pcode_model.specs.WellFormed.{IsWellFormed}
use Rattle.frame_facts.specs.Listed.{IsFrame}
use Rattle.supported.specs.Supported.{HasBuiltOps}
use Rattle.op_code.specs.Cover.{HasCover}
use Rattle.op_code.specs.Lowerable.{IsLowerable}
use Rattle.op_code.specs.Lowered.{ranges_of}
use Rattle.op_code.specs.Ranges.{HasAtoms}
use Rattle.op_code.proofs.Atoms.{accessed_cover}
use Rattle.plain_form.proofs.Accessed.{accessed_inside}
use Rattle.plain_form.proofs.Formed.{Inside}
use Rattle.frame_facts.proofs.Bounded.{IsKnown, framed}
use Rattle.plain_form.proofs.Halves.{even, off_frame}
use Rattle.plain_form.proofs.Owned.{owned}
use Rattle.plain_form.proofs.Plain.{plain_at}
use Rattle.plain_form.proofs.Splits.{kept_of, splits}
use Rattle.plain_form.proofs.Table.{atoms_narrow, atoms_some, atoms_table, in_ranges}

has_atoms : (l : Listing) (atoms : List Atom) → HasAtoms l atoms (ranges_of l atoms)
has_atoms l atoms = record {
  registers = λ o k is. in_ranges l atoms (range (P.Register o) k) is;
  uniques = λ o k is. in_ranges l atoms (range (P.Unique o) k) is;
}

-- All that the theorem of the plain lowering asks for.
pub plain_form : (l : Listing)
    → IsWellFormed l
    → first_bad l ≡ None
    → HasBuiltOps l
    → (evaluated : List Place) (f : Frame)
    → IsFrame l [] evaluated f
    → (blocks : List Block)
    → IsFlow l [] blocks
    → NoFault l []
    → length blocks ≤ 2048
    → (atoms : List Atom)
    → AreAtoms l [] f atoms
    → IsLowerable l [] (frame_of l f) blocks atoms
plain_form l read good sup evaluated f frame blocks flow fine few atoms are =
    let inner : (v : Varnode) → Accesses l [] v → Inside l v = accessed_inside l read good sup in
    let known : (a : FrameAccess) → IsIn a f.accesses → IsKnown l a = framed l read good [] evaluated f frame in
    let table = atoms_table l read inner f known atoms are in
    -- each range that is accessed is a row of the atoms' variables
    let covered : (v : Varnode) → Accesses l [] v → HasCover (ranges_of l atoms) v =
    accessed_cover l [] f atoms (ranges_of l atoms) are (has_atoms l atoms) table
    (atoms_some l read inner f known atoms are) in
    record {
      flow = flow;
      few = omega arith;
      table = table;
      narrow = atoms_narrow l read inner f known atoms are;
      even = even l read;
      registers = λ e. off_frame l read (register_space l) (inl refl) e;
      uniques = λ e. off_frame l read (unique_space l) (inr refl) e;
      plain = plain_at l read good sup (frame_of l f) (ranges_of l atoms) covered
          (λ p k among is. splits l read f k (kept_of l.protos p k among is) atoms are)
          (λ p i op n c here own. owned l read inner f known atoms are evaluated frame p i op n c here own)
          fine;
    }
