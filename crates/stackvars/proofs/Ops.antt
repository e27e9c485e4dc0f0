-- The ranges that are read of a list of inputs, and the atoms of two lists of ranges.
use Rattle.std.proofs.Common.{◌≡◌, ◌∙◌, List, [], ◌∷◌, ◌++◌, refl, sym, ap, append_assoc}
use Rattle.pcode_model.specs.declared.listing.Varnode.{Varnode}
use Rattle.pcode_model.specs.declared.listing.Listing.{Listing}
use Rattle.pcode_model.specs.declared.atoms.Atom.{Atom}
use Rattle.pcode_model.specs.Rules.{past_first}
use Rattle.pcode_model.specs.Step.{all_but_first, all_read}
use Rattle.pcode_model.specs.Atoms.{ranges_read}
use Rattle.stackvars.specs.Collected.{atom_of, atoms_of}

-- What reads all its inputs reads their ranges.
pub read_all : (vs : List Varnode) → ranges_read (all_read vs) ≡ vs
read_all [] = refl
read_all (v ∷ vs) = ap (λ (xs : List Varnode). v ∷ xs) (read_all vs)

-- What reads all inputs but the first reads their ranges.
pub read_past : (vs : List Varnode) → ranges_read (all_but_first vs) ≡ past_first vs
read_past [] = refl
read_past (v ∷ vs) = read_all vs

pub atoms_of_both : (l : Listing) (vs ws : List Varnode) → atoms_of l (vs ++ ws) ≡ atoms_of l vs ++ atoms_of l ws
atoms_of_both l [] ws = refl
atoms_of_both l (v ∷ vs) ws =
    ap (λ (xs : List Atom). atom_of l v ++ xs) (atoms_of_both l vs ws)
    ∙ sym (append_assoc (atom_of l v) (atoms_of l vs) (atoms_of l ws))
