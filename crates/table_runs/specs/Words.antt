-- What the trees of a slice stand for in a run that comes into it. This project's own.
use Rattle.std.specs.Prelude.{ℕ, List, [], ◌∷◌}
use Rattle.bits_core.specs.Value.{binary_value, divide_value, part, unary_value}
use Rattle.pcode_model.specs.Memory.{or_else}
use Rattle.table_form.specs.Trees.{Doing, OfOne, OfTwo, Divides, Loads, Drops, Joins, Tree, Entry, Number, Node, Trees, End, More, width}
use Rattle.table_form.specs.Values.{Sized, joined, word}

-- The words of ranges as the slice is entered, and what its LOADs give: so many bytes of a space, by the tree of the
-- address and by its word.
pub record Words : Type 0 where
  pub range : (space offset size : ℕ) → ℕ
  pub load : (space size : ℕ) → Trees → (address : ℕ) → ℕ

-- what a node makes of its inputs' words; a division by 0 isn't passed
abbrev pub made : Words → Doing → ℕ → Trees → List Sized → ℕ
made e (OfOne op) k ts ws = unary_value op (word ws 0).size (word ws 0).value k
made e (OfTwo op) k ts ws = binary_value op (word ws 0).size (word ws 0).value (word ws 1).size (word ws 1).value k
made e (Divides op) k ts ws = or_else (divide_value op k (word ws 0).value (word ws 1).value) 0
made e (Loads s) k ts ws = e.load s k ts (word ws 0).value
made e (Drops d) k ts ws = part (word ws 0).value d k
made e Joins k ts ws = joined ws

-- the word of a tree
abbrev mutual
  pub value : Words → Tree → ℕ
  value e (Entry s o k) = e.range s o k
  value e (Number v k) = v
  value e (Node d k ts) = made e d k ts (values e ts)

  pub values : Words → Trees → List Sized
  values e End = []
  values e (More t ts) = record { size = width t; value = value e t } ∷ values e ts
