-- The ranges that ops access, op by op, and those of frame variables, as atoms, and the range of an atom. This project's
-- own.
use Rattle.std.specs.Prelude.{ℕ, ◌==◌, if◌then◌else◌, List, [], ◌∷◌, ◌++◌, Option, Some, None}
use Rattle.pcode_model.specs.declared.listing.Place.{Place}
use Rattle.pcode_model.specs.declared.listing.Varnode.{Varnode}
use Rattle.pcode_model.specs.declared.listing.Listing.{Listing}
use Rattle.pcode_model.specs.declared.storage.ParamStorage.{ParamStorage}
use Rattle.pcode_model.specs.declared.storage.ParamStorage.TheVariants as P
use Rattle.pcode_model.specs.declared.atoms.Atom.{Atom}
use Rattle.pcode_model.specs.declared.flow.Block.{Block}
use Rattle.pcode_model.specs.declared.frame.Frame.{Frame}
use Rattle.pcode_model.specs.declared.frame.FrameAccess.{FrameAccess}
use Rattle.pcode_model.specs.Spaces.{register_space, unique_space}
use Rattle.pcode_model.specs.Atoms.{ranges_at}

-- where a register or unique range stands
abbrev pub storage_of : Listing → Varnode → Option ParamStorage
storage_of l v =
    if v.space == register_space l then Some (P.Register v.offset) else
    (if v.space == unique_space l then Some (P.Unique v.offset) else None)

abbrev pub atom_at : Option ParamStorage → ℕ → List Atom
atom_at None k = []
atom_at (Some s) k = record { storage = s; size = k } ∷ []

-- the atom of a register or unique range
abbrev pub atom_of : Listing → Varnode → List Atom
atom_of l v = atom_at (storage_of l v) v.size

abbrev pub atoms_of : Listing → List Varnode → List Atom
atoms_of l [] = []
atoms_of l (v ∷ vs) = atom_of l v ++ atoms_of l vs

abbrev pub atoms_at : Listing → List Place → List Atom
atoms_at l [] = []
atoms_at l (p ∷ ps) = atoms_of l (ranges_at l [] p) ++ atoms_at l ps

abbrev pub atoms_in : Listing → List Block → List Atom
atoms_in l [] = []
atoms_in l (b ∷ bs) = atoms_at l b.places ++ atoms_in l bs

-- the ranges of accesses of frame variables
abbrev pub frame_ranges : List FrameAccess → List Atom
frame_ranges [] = []
frame_ranges (a ∷ rest) = record { storage = P.Stack a.offset; size = a.size } ∷ frame_ranges rest

abbrev pub collected : Listing → List Block → Frame → List Atom
collected l bs f = atoms_in l bs ++ frame_ranges f.accesses

-- ---- back to ranges

abbrev pub range : ℕ → ℕ → ℕ → Varnode
range s o k = record { space = s; offset = o; size = k }

-- the range of so many bytes at a storage; the frame is no space of the listing
abbrev pub range_at : Listing → ParamStorage → ℕ → Option Varnode
range_at l (P.Register o) k = Some (range (register_space l) o k)
range_at l (P.Unique o) k = Some (range (unique_space l) o k)
range_at l (P.Stack o) k = None

abbrev pub range_of : Listing → Atom → Option Varnode
range_of l a = range_at l a.storage a.size
