-- Which atoms some accesses and cuts have. This project's own.
use Rattle.std.specs.Prelude.{◌≡◌, ℕ, ◌-◌, ◌^◌, List, [], ◌∷◌, ◌++◌, ℤ, pos, negsuc}
use Rattle.pcode_model.specs.declared.storage.ParamStorage.TheVariants as P
use Rattle.pcode_model.specs.declared.atoms.Atom.{Atom}
use Rattle.pcode_model.specs.Atoms.{Range, range}
use Rattle.stackvars.specs.declared.sweep.Piece.{Piece}
use Rattle.stackvars.specs.Cuts.{atoms_of, more_cuts, opens}
use Rattle.stackvars.specs.Sweep.{ArePieces}

-- these are the atoms of these accesses, where the ends of these ranges cut besides
pub record Splits (accessed cuts : List Range) (atoms : List Atom) : Type 0 where
  pub pieces : List Piece
  pub are : ArePieces (opens accessed ++ more_cuts cuts) pieces
  pub made : atoms_of pieces ≡ atoms

abbrev pub register : ℕ → ℕ → Range
register o k = range (P.Register o) k

abbrev pub unique : ℕ → ℕ → Range
unique o k = range (P.Unique o) k

abbrev pub stacked : ℤ → ℕ → Range
stacked o k = range (P.Stack o) k

-- an access of the first byte cuts an access of four
abbrev pub ByteCuts : Type 0
ByteCuts = Splits (register 0 4 ∷ register 0 1 ∷ []) [] (register 0 1 ∷ register 1 3 ∷ [])

-- an end of a kept range lies inside an access
abbrev pub KeptCuts : Type 0
KeptCuts = Splits (register 0 4 ∷ []) (register 2 8 ∷ []) (register 0 2 ∷ register 2 2 ∷ [])

-- accesses touch, and stay apart
abbrev pub TouchingStay : Type 0
TouchingStay = Splits (register 4 4 ∷ register 0 4 ∷ []) [] (register 0 4 ∷ register 4 4 ∷ [])

-- accesses that overlap give three atoms
abbrev pub OverlapSplits : Type 0
OverlapSplits = Splits (register 0 4 ∷ register 2 4 ∷ []) [] (register 0 2 ∷ register 2 2 ∷ register 4 2 ∷ [])

-- what nothing accesses is no atom, kept or not
abbrev pub NoAccess : Type 0
NoAccess = Splits (register 0 4 ∷ register 12 4 ∷ []) (register 4 4 ∷ []) (register 0 4 ∷ register 12 4 ∷ [])

-- an access ends at the last byte of the greatest space, and the unique space follows
abbrev pub LastByte : Type 0
LastByte =
    Splits (unique 0 4 ∷ register (2 ^ 64 - 4) 4 ∷ []) []
    (register (2 ^ 64 - 4) 4 ∷ unique 0 4 ∷ [])

-- The frame follows the unique space, and an access across the stack pointer's entry word is one atom, unless an argument
-- on the stack ends inside it.
abbrev pub AcrossEntry : Type 0
AcrossEntry =
    Splits (stacked (negsuc 1) 4 ∷ unique (2 ^ 64 - 4) 4 ∷ stacked (negsuc 7) 4 ∷ []) []
    (unique (2 ^ 64 - 4) 4 ∷ stacked (negsuc 7) 4 ∷ stacked (negsuc 1) 4 ∷ [])

abbrev pub ArgumentCuts : Type 0
ArgumentCuts =
    Splits (stacked (negsuc 1) 4 ∷ stacked (pos 4) 4 ∷ []) (stacked (pos 0) 4 ∷ [])
    (stacked (negsuc 1) 2 ∷ stacked (pos 0) 2 ∷ stacked (pos 4) 4 ∷ [])
