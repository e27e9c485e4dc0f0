-- Small ranges, what they are made of, and what stands for reading and writing them.
use Rattle.std.specs.Prelude.{◌≡◌, ℕ, true, false, List, [], ◌∷◌}
use Rattle.pcode_model.specs.declared.listing.Varnode.{Varnode}
use Rattle.cmeaning.specs.declared.tree.Expr.{Expr}
use Rattle.cmeaning.specs.declared.tree.Expr.TheVariants as E
use Rattle.cmeaning.specs.declared.tree.Stmt.TheVariants as S
use Rattle.op_values.specs.Nodes.{width_by}
use Rattle.op_code.specs.Cover.{Piece, cover}
use Rattle.op_code.specs.Words.{read_range, target, write_range}

abbrev pub varnode : ℕ → ℕ → ℕ → Varnode
varnode space offset size = record { space = space; offset = offset; size = size }

abbrev pub piece : ℕ → Varnode → Piece
piece n a = record { variable = n; range = a }

-- Four bytes of space 3 in three variables of two bytes, one and one, another range that lies behind them, and four
-- bytes of space 4 in three variables of one byte, one and two. The order of the table is any.
abbrev pub ranges : List Varnode
ranges = varnode 3 4 8 ∷ varnode 3 2 1 ∷ varnode 3 0 2 ∷ varnode 4 0 1 ∷ varnode 3 3 1 ∷ varnode 4 1 1
    ∷ varnode 4 2 2 ∷ []

abbrev pub whole : Varnode
whole = varnode 3 0 4

abbrev pub half : Varnode
half = varnode 3 2 2

abbrev pub last : Varnode
last = varnode 3 3 1

abbrev pub first : Varnode
first = varnode 4 0 1

abbrev pub behind : Varnode
behind = varnode 3 4 8

-- They stand by rising offset. A range that begins within a variable's has none at its beginning, and one that ends
-- within a variable's has one that goes past it.
pub record WorkedCovers : Type 0 where
  pub three : cover ranges whole ≡ piece 2 (varnode 3 0 2) ∷ piece 1 (varnode 3 2 1) ∷ piece 4 last ∷ []
  pub two : cover ranges half ≡ piece 1 (varnode 3 2 1) ∷ piece 4 last ∷ []
  pub one : cover ranges behind ≡ piece 0 behind ∷ []
  pub other_space : cover ranges (varnode 4 0 4)
      ≡ piece 3 first ∷ piece 5 (varnode 4 1 1) ∷ piece 6 (varnode 4 2 2) ∷ []
  pub begins_within : cover ranges (varnode 3 1 2) ≡ piece 1 (varnode 3 2 1) ∷ []
  pub ends_within : cover ranges (varnode 3 3 2) ≡ piece 4 last ∷ piece 0 behind ∷ []
  pub nowhere : cover ranges (varnode 3 12 4) ≡ []

-- The most significant one comes first: the last one with the little end first.
pub record WorkedReads : Type 0 where
  pub three_little : read_range false ranges whole ≡ E.Concat (E.Var 4) (E.Concat (E.Var 1) (E.Var 2))
  pub three_big : read_range true ranges whole ≡ E.Concat (E.Var 2) (E.Concat (E.Var 1) (E.Var 4))
  pub two_little : read_range false ranges half ≡ E.Concat (E.Var 4) (E.Var 1)
  pub two_big : read_range true ranges half ≡ E.Concat (E.Var 1) (E.Var 4)
  pub one_little : read_range false ranges behind ≡ E.Var 0
  pub one_big : read_range true ranges behind ≡ E.Var 0

abbrev pub part : ℕ → ℕ → Expr
part k w = E.Part k (width_by w) (E.Var 9)

-- Three are assigned the parts of local 9 by rising offset.
pub record WorkedWrites : Type 0 where
  pub to_local : target ranges 9 whole ≡ 9
  pub little : write_range false ranges whole 9
      ≡ S.Assign 2 (part 0 2) ∷ S.Assign 1 (part 2 1) ∷ S.Assign 4 (part 3 1) ∷ []
  pub big : write_range true ranges whole 9
      ≡ S.Assign 2 (part 2 2) ∷ S.Assign 1 (part 1 1) ∷ S.Assign 4 (part 0 1) ∷ []

-- The low byte is the last one in space 3 with the big end first, and the first one in space 4 with the little end
-- first. It is written to its own variable and nothing else is done, so those of the other bytes keep theirs.
pub record WorkedBytes : Type 0 where
  pub target_big : target ranges 9 last ≡ 4
  pub big : write_range true ranges last 9 ≡ []
  pub target_little : target ranges 9 first ≡ 3
  pub little : write_range false ranges first 9 ≡ []
