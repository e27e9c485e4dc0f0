-- What stands for the word of a range that is made of several, and what is done to write one. This project's own.
use Rattle.std.specs.Prelude.{ℕ, ◌-◌, Bool, if◌then◌else◌, List, [], ◌∷◌, map, reverse}
use Rattle.bits_core.specs.Bytes.{place_of_part}
use Rattle.pcode_model.specs.declared.listing.Varnode.{Varnode}
use Rattle.cmeaning.specs.declared.tree.Expr.{Expr}
use Rattle.cmeaning.specs.declared.tree.Expr.TheVariants as E
use Rattle.cmeaning.specs.declared.tree.Stmt.{Stmt}
use Rattle.cmeaning.specs.declared.tree.Stmt.TheVariants as S
use Rattle.op_values.specs.Nodes.{constant, nearest, part_node}
use Rattle.op_code.specs.Cover.{Piece, cover}

-- ---- reading

-- the concatenation of variables, the first one most significant
abbrev pub joined : List Piece → Expr
joined [] = constant 1 0
joined (p ∷ []) = E.Var p.variable
joined (p ∷ q ∷ ps) = E.Concat (E.Var p.variable) (joined (q ∷ ps))

-- the word of a range; `big` says that its space has the big end first
abbrev pub read_range : Bool → List Varnode → Varnode → Expr
read_range big ranges v = joined (if big then cover ranges v else reverse (cover ranges v))

-- ---- writing

-- how many bytes of the word of a range are less significant than a range in it
abbrev pub bytes_below : Bool → Varnode → Varnode → ℕ
bytes_below big v a = place_of_part big v.size (a.offset - v.offset) a.size

-- a variable is assigned its part of the word that a local holds for a range
abbrev pub assigns_part : Bool → Varnode → ℕ → Piece → Stmt
assigns_part big v local p =
    S.Assign p.variable (part_node (nearest v.size) (bytes_below big v p.range) p.range.size (E.Var local))

-- One variable is written without a local, so nothing is done then.
abbrev pub parts_by : Bool → Varnode → ℕ → List Piece → List Stmt
parts_by big v local [] = []
parts_by big v local (p ∷ []) = []
parts_by big v local (p ∷ q ∷ ps) = map (assigns_part big v local) (p ∷ q ∷ ps)

-- what follows a statement that writes a range
abbrev pub write_range : Bool → List Varnode → Varnode → (local : ℕ) → List Stmt
write_range big ranges v local = parts_by big v local (cover ranges v)

abbrev pub target_by : ℕ → List Piece → ℕ
target_by next (p ∷ []) = p.variable
target_by next ps = next

-- the variable that such a statement assigns: the range's own, or the next local
abbrev pub target : List Varnode → (next : ℕ) → Varnode → ℕ
target ranges next v = target_by next (cover ranges v)
