-- Tables whose variables stand for the atoms of a listing. This project's own.
use Rattle.std.specs.Prelude.{◌≡◌, ℕ, List}
use Rattle.pcode_model.specs.declared.listing.Varnode.{Varnode}
use Rattle.pcode_model.specs.declared.listing.Listing.{Listing}
use Rattle.pcode_model.specs.declared.storage.ParamStorage.{ParamStorage}
use Rattle.pcode_model.specs.declared.storage.ParamStorage.TheVariants as P
use Rattle.pcode_model.specs.declared.atoms.Atom.{Atom}
use Rattle.pcode_model.specs.Atoms.{range, varnode}
use Rattle.pcode_model.specs.Flow.{IsIn}
use Rattle.pcode_model.specs.Spaces.{register_space, unique_space}

-- the range of a storage in the register space or the unique space
abbrev pub IsRangeOf : Listing → ParamStorage → ℕ → Varnode → Type 0
IsRangeOf l (P.Register o) k v = v ≡ varnode (register_space l) o k
IsRangeOf l (P.Unique o) k v = v ≡ varnode (unique_space l) o k
IsRangeOf l (P.Stack o) k v = ⊥

-- Each atom of the register space and of the unique space is the range of a variable.
pub record HasAtoms (l : Listing) (atoms : List Atom) (ranges : List Varnode) : Type 0 where
  pub registers : (o k : ℕ) → IsIn (range (P.Register o) k) atoms → IsIn (varnode (register_space l) o k) ranges
  pub uniques : (o k : ℕ) → IsIn (range (P.Unique o) k) atoms → IsIn (varnode (unique_space l) o k) ranges
