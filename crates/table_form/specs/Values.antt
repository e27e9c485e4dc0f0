-- The values of trees. This project's own; the values of operations are the P-Code Reference Manual's.
use Rattle.std.specs.Prelude.{◌≡◌, ◌≢◌, ℕ, ◌+◌, List, [], ◌∷◌, map, slice_get, Option, Some, None}
use Rattle.bits_core.specs.Value.{concat, divide_value, part, binary_value, unary_value}
use Rattle.bits_core.specs.Bytes.{word_of}
use Rattle.pcode_model.specs.declared.listing.Listing.{Listing}
use Rattle.pcode_model.specs.Spaces.{bytes_at, fixed_byte, is_big, size_of}
use Rattle.pcode_model.specs.Step.{byte_address}
use Rattle.table_form.specs.Trees.{Doing, OfOne, OfTwo, Divides, Loads, Drops, Joins, Tree, Number, Node, Trees, End, More, width}

-- a word with its bytes
pub record Sized : Type 0 where
  pub size : ℕ
  pub value : ℕ

abbrev pub sized_in : Option Sized → Sized
sized_in None = record { size = 0; value = 0 }
sized_in (Some w) = w

abbrev pub word : List Sized → ℕ → Sized
word ws n = sized_in (slice_get ws n)

abbrev pub sizes : List Sized → ℕ
sizes [] = 0
sizes (w ∷ ws) = w.size + sizes ws

-- words together, the high part first
abbrev pub joined : List Sized → ℕ
joined [] = 0
joined (w ∷ ws) = concat (sizes ws) w.value (joined ws)

-- the word that a space has at an address, of read-only bytes alone
pub record IsFixedWord (l : Listing) (space address k n : ℕ) : Type 0 where
  pub bytes : List ℕ
  pub fixed : bytes_at (size_of l space) (fixed_byte l space) address k ≡ map Some bytes
  pub word : n ≡ word_of (is_big l space) bytes

-- What a node of k bytes makes of its inputs' words: a LOAD only of read-only bytes, and no division by 0.
abbrev pub Makes : Listing → Doing → ℕ → List Sized → ℕ → Type 0
Makes l (OfOne op) k ws n = n ≡ unary_value op (word ws 0).size (word ws 0).value k
Makes l (OfTwo op) k ws n = n ≡ binary_value op (word ws 0).size (word ws 0).value (word ws 1).size (word ws 1).value k
Makes l (Divides op) k ws n = divide_value op k (word ws 0).value (word ws 1).value ≡ Some n
Makes l (Loads s) k ws n = IsFixedWord l s (byte_address l s (word ws 0).value) k n
Makes l (Drops d) k ws n = n ≡ part (word ws 0).value d k
Makes l Joins k ws n = n ≡ joined ws

-- The value of a tree where x has the value v. Outside x there is no range of the slice's entry, since that has no value.
mutual
  pub data Gives (l : Listing) (x : Tree) (v : ℕ) : Tree → ℕ → Type 0 where
    Here : Gives l x v x v
    OfNumber : (n k : ℕ) → Number n k ≢ x → Gives l x v (Number n k) n
    OfNode : (d : Doing) (k n : ℕ) (ts : Trees) (ws : List Sized)
        → Node d k ts ≢ x
        → GiveAll l x v ts ws
        → Makes l d k ws n
        → Gives l x v (Node d k ts) n

  pub data GiveAll (l : Listing) (x : Tree) (v : ℕ) : Trees → List Sized → Type 0 where
    NoMore : GiveAll l x v End []
    OneMore : (n : ℕ) (t : Tree) (ts : Trees) (ws : List Sized)
        → Gives l x v t n
        → GiveAll l x v ts ws
        → GiveAll l x v (More t ts) (record { size = width t; value = n } ∷ ws)
