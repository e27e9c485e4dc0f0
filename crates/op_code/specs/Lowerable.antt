-- The form of listings whose plain lowering shows the same. This project's own.
use Rattle.std.specs.Prelude.{◌≡◌, ◌≢◌, ◌+◌, ◌-◌, ◌^◌, ◌<◌, ◌≤◌, List, [], ◌∷◌, length}
use Rattle.pcode_model.specs.declared.listing.Varnode.{Varnode}
use Rattle.pcode_model.specs.declared.listing.Listing.{Listing}
use Rattle.pcode_model.specs.declared.listing.Place.{Place}
use Rattle.pcode_model.specs.declared.atoms.Atom.{Atom}
use Rattle.pcode_model.specs.declared.tables.TableAt.{TableAt}
use Rattle.pcode_model.specs.declared.flow.Block.{Block}
use Rattle.pcode_model.specs.Flow.{IsFlow, Reached}
use Rattle.pcode_model.specs.Memory.{Frame}
use Rattle.pcode_model.specs.Spaces.{first_ram, register_space, unique_space}
use Rattle.pcode_model.specs.Places.{Standing, Nothing, Passes, Does, standing}
use Rattle.range_words.specs.Own.{half, stack_size}
use Rattle.range_words.specs.Ranges.{IsTable}
use Rattle.op_code.specs.Made.{Own}
use Rattle.op_code.specs.Form.{IsPlainOp}
use Rattle.op_code.specs.Lowered.{ranges_of}

abbrev pub IsPlain : Listing → Own → List Varnode → Standing → Type 0
IsPlain l own ranges Nothing = ⊥
IsPlain l own ranges (Passes i) = Unit {0}
IsPlain l own ranges (Does i op) = IsPlainOp l own ranges op.code op.out op.inputs

-- 1 to 16 bytes wide
abbrev pub AreNarrow : List Atom → Type 0
AreNarrow [] = Unit {0}
AreNarrow (a ∷ rest) = ((0 < a.size) × (a.size ≤ 16)) × AreNarrow rest

-- What is asked of a listing with its frame, its blocks and its atoms: what stands at each reached place is of the form, so
-- that each range that is accessed is a whole number of atoms, and these lie within their spaces and apart from each other.
-- even: the first ram space has two halves.
-- registers, uniques: and it is neither the register space nor the unique space.
pub record IsLowerable (l : Listing) (t : List TableAt) (f : Frame) (blocks : List Block) (atoms : List Atom) : Type 0
  where
    pub flow : IsFlow l t blocks
    pub few : length blocks < 2 ^ 32 - 1
    pub table : IsTable l (ranges_of l atoms)
    pub narrow : AreNarrow atoms
    pub even : half (stack_size l) + half (stack_size l) ≡ stack_size l
    pub registers : register_space l ≢ first_ram l
    pub uniques : unique_space l ≢ first_ram l
    pub plain : (p : Place) → Reached l t p → IsPlain l (f.own p) (ranges_of l atoms) (standing l p)
