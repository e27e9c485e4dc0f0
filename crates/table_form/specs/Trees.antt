-- Expressions over what ranges hold as a slice of code is entered. This project's own.
use Rattle.std.specs.Prelude.{ℕ, ◌+◌, ◌==◌, ◌&&◌, nat_le, Bool, true, false, if◌then◌else◌, List, [], ◌∷◌, ◌++◌, Option, Some, None}
use Rattle.bits_core.specs.declared.ops.Unary.{Unary}
use Rattle.bits_core.specs.declared.ops.Unary.TheVariants as U
use Rattle.bits_core.specs.declared.ops.Binary.{Binary}
use Rattle.bits_core.specs.declared.ops.Divide.{Divide}

-- What a node makes of its inputs.
-- OfOne, OfTwo, Divides: the value of the operation; COPY is of a constant here.
-- Loads: what the space has at the address that the input gives.
-- Drops: SUBPIECE, the input without so many low bytes.
-- Joins: PIECE, of two inputs or more, the high part first.
pub data Doing : Type 0 where
  OfOne : Unary → Doing
  OfTwo : Binary → Doing
  Divides : Divide → Doing
  Loads : (space : ℕ) → Doing
  Drops : (dropped : ℕ) → Doing
  Joins : Doing

-- Sizes are in bytes. Entry: the range at the slice's entry. Number: a constant. Node: what is made of inputs, in order.
mutual
  pub data Tree : Type 0 where
    Entry : (space offset size : ℕ) → Tree
    Number : (value size : ℕ) → Tree
    Node : Doing → (size : ℕ) → Trees → Tree

  pub data Trees : Type 0 where
    End : Trees
    More : Tree → Trees → Trees

abbrev pub width : Tree → ℕ
width (Entry s o k) = k
width (Number v k) = k
width (Node d k ts) = k

abbrev pub widths : Trees → ℕ
widths End = 0
widths (More t ts) = width t + widths ts

-- a tree's subtrees in reading order: a node before its inputs, and these in order
abbrev mutual
  pub reading : Tree → List Tree
  reading (Entry s o k) = Entry s o k ∷ []
  reading (Number v k) = Number v k ∷ []
  reading (Node d k ts) = Node d k ts ∷ readings ts

  pub readings : Trees → List Tree
  readings End = []
  readings (More t ts) = reading t ++ readings ts

-- ---- constants

abbrev pub is_copy : Unary → Bool
is_copy U.Copy = true
is_copy op = false

abbrev pub copies : Doing → Bool
copies (OfOne op) = is_copy op
copies d = false

abbrev pub number_of : Tree → Option ℕ
number_of (Number v k) = Some v
number_of t = None

abbrev pub number_in : Trees → Option ℕ
number_in End = None
number_in (More t ts) = number_of t

-- the value of a constant or of a copied one
abbrev pub constant_of : Tree → Option ℕ
constant_of (Entry s o k) = None
constant_of (Number v k) = Some v
constant_of (Node d k ts) = if copies d then number_in ts else None

-- ---- nodes

abbrev pub node_of_one : Unary → ℕ → Tree → Tree
node_of_one op k t = Node (OfOne op) k (More t End)

abbrev pub node_of_two : Binary → ℕ → Tree → Tree → Tree
node_of_two op k t u = Node (OfTwo op) k (More t (More u End))

-- so many bytes of a tree, behind so many low ones that are dropped
abbrev pub cut : Tree → (dropped size : ℕ) → Tree
cut t d n = Node (Drops d) n (More t End)

abbrev pub trees : List Tree → Trees
trees [] = End
trees (t ∷ ts) = More t (trees ts)

-- ---- parts of a tree

abbrev pub is_extension : Unary → Bool
is_extension U.ZeroExtend = true
is_extension op = false

abbrev pub extends : Doing → Bool
extends (OfOne op) = is_extension op
extends d = false

-- A part of a tree is cut from it. But of an INT_ZEXT, a part that lies within the low bytes that were extended is that
-- part of the INT_ZEXT's input, and all of these low bytes are the input itself.
abbrev mutual
  pub part_of : Tree → (dropped size : ℕ) → Tree
  part_of (Entry s o k) d n = cut (Entry s o k) d n
  part_of (Number v k) d n = cut (Number v k) d n
  part_of (Node what k ts) d n = if extends what then part_within (Node what k ts) ts d n else cut (Node what k ts) d n

  -- by the INT_ZEXT and its input
  pub part_within : Tree → Trees → (dropped size : ℕ) → Tree
  part_within whole End d n = cut whole d n
  part_within whole (More t ts) d n =
      if nat_le (d + n) (width t)
      then (if d == 0 && n == width t then t else part_of t d n)
      else cut whole d n
