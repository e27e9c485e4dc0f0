-- The variables that a range is made of. This project's own.
use Rattle.std.specs.Prelude.{◌≡◌, ℕ, zero, suc, ◌+◌, ◌<◌, ◌==◌, ◌&&◌, Bool, List, [], ◌∷◌, ◌++◌, slice_get, Option, Some, None}
use Rattle.pcode_model.specs.declared.listing.Varnode.{Varnode}
use Rattle.cmeaning.specs.Places.{place}
-- a variable, and the range that it stands for
pub use Rattle.op_code.specs.declared.covers.Piece.{Piece}

abbrev pub begins : ℕ → ℕ → Varnode → Bool
begins space offset a = a.space == space && a.offset == offset

abbrev pub piece_of : ℕ → Option Varnode → List Piece
piece_of n None = []
piece_of n (Some a) = record { variable = n; range = a } ∷ []

abbrev pub piece_by : List Varnode → Option ℕ → List Piece
piece_by ranges None = []
piece_by ranges (Some n) = piece_of n (slice_get ranges n)

-- the first variable whose range begins at an offset of a space, where there is one
abbrev pub pieces_at : List Varnode → (space offset : ℕ) → List Piece
pieces_at ranges space offset = piece_by ranges (place (begins space offset) ranges)

-- those at so many offsets from one on
abbrev pub pieces_from : List Varnode → (space offset bytes : ℕ) → List Piece
pieces_from ranges space offset zero = []
pieces_from ranges space offset (suc k) = pieces_at ranges space offset ++ pieces_from ranges space (suc offset) k

-- The variables whose ranges begin in a range, by rising offset.
abbrev pub cover : List Varnode → Varnode → List Piece
cover ranges v = pieces_from ranges v.space v.offset v.size

-- A variable of the table, whose range begins at an offset of a space.
pub record Begins (ranges : List Varnode) (s o : ℕ) (p : Piece) : Type 0 where
  pub listed : slice_get ranges p.variable ≡ Some p.range
  pub space : p.range.space ≡ s
  pub offset : p.range.offset ≡ o
  pub some : 0 < p.range.size

-- The ranges of these variables lie one behind the other from an offset to an end.
abbrev pub IsRow : List Varnode → (space offset : ℕ) → List Piece → (end : ℕ) → Type 0
IsRow ranges space offset [] end = offset ≡ end
IsRow ranges space offset (p ∷ ps) end =
    Begins ranges space offset p × IsRow ranges space (offset + p.range.size) ps end

-- the ranges of variables fill this range without a gap, and none goes past it
abbrev pub HasCover : List Varnode → Varnode → Type 0
HasCover ranges v = IsRow ranges v.space v.offset (cover ranges v) (v.offset + v.size)
