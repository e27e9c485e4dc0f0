-- Cuts of a line, and the pieces between neighbouring cuts over which a stretch lies. This project's own.
use Rattle.std.specs.Prelude.{◌≡◌, ℕ, ◌<◌, ◌≤◌, List, [], ◌∷◌, ◌↔◌}
use Rattle.pcode_model.specs.Flow.{IsIn}
use Rattle.stackvars.specs.declared.sweep.Mark.{Mark}
use Rattle.stackvars.specs.declared.sweep.Piece.{Piece}

abbrev pub position_of : Mark → ℕ
position_of m = m.position

-- the line is cut there
abbrev pub IsMarked : List Mark → ℕ → Type 0
IsMarked marks n = (m : Mark) × (IsIn m marks × (m.position ≡ n))

-- a stretch that begins there or before goes on past there
abbrev pub IsUnder : List Mark → ℕ → Type 0
IsUnder marks n = (m : Mark) × (IsIn m marks × ((m.position ≤ n) × (n < m.reach)))

-- from one cut to the next one, under a stretch
pub record IsPiece (marks : List Mark) (p : Piece) : Type 0 where
  pub some : p.begin < p.end
  pub begins : IsMarked marks p.begin
  pub ends : IsMarked marks p.end
  pub whole : (n : ℕ) → p.begin < n → n < p.end → IsMarked marks n → ⊥
  pub under : IsUnder marks p.begin

-- the first one begins there or later, and none before the one before it ends
abbrev pub RiseFrom : ℕ → List Piece → Type 0
RiseFrom n [] = Unit {0}
RiseFrom n (p ∷ rest) = (n ≤ p.begin) × RiseFrom p.end rest

-- all pieces, each once and in their order
pub record ArePieces (marks : List Mark) (pieces : List Piece) : Type 0 where
  pub each : (p : Piece) → IsIn p pieces ↔ IsPiece marks p
  pub rise : RiseFrom 0 pieces
