-- The parameters that stand for atoms. This project's own.
use Rattle.std.specs.Prelude.{◌≡◌, false, List, [], ◌∷◌}
use Rattle.pcode_model.specs.declared.atoms.Atom.{Atom}
use Rattle.cmeaning.specs.declared.tree.Param.{Param}

-- an `in_` parameter: it is unsigned and no argument of the prototype, and has the atom's storage and width
pub record IsInput (a : Atom) (p : Param) : Type 0 where
  pub storage : p.storage ≡ a.storage
  pub width : p.width.bytes ≡ a.size
  pub unsigned : p.signed ≡ false
  pub input : p.model ≡ false

-- one for each atom, in their order
abbrev pub AreInputs : List Atom → List Param → Type 0
AreInputs [] [] = Unit {0}
AreInputs [] (p ∷ params) = ⊥
AreInputs (a ∷ atoms) [] = ⊥
AreInputs (a ∷ atoms) (p ∷ params) = IsInput a p × AreInputs atoms params
