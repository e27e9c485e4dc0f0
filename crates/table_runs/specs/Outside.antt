-- The nodes of a target that stand outside x, so that the target evaluates them. This project's own.
use Rattle.std.specs.Prelude.{◌≢◌, ℕ}
use Rattle.table_form.specs.Trees.{Doing, Tree, Node, Trees, More}

mutual
  -- u stands in a tree, and within no x
  pub data IsOutside (x u : Tree) : Tree → Type 0 where
    Itself : u ≢ x → IsOutside x u u
    Within : (d : Doing) (k : ℕ) (ts : Trees) → Node d k ts ≢ x → IsOutsideOne x u ts → IsOutside x u (Node d k ts)

  pub data IsOutsideOne (x u : Tree) : Trees → Type 0 where
    InFirst : (t : Tree) (ts : Trees) → IsOutside x u t → IsOutsideOne x u (More t ts)
    InRest : (t : Tree) (ts : Trees) → IsOutsideOne x u ts → IsOutsideOne x u (More t ts)
