-- Small blocks, and what they show from every entry.
use Rattle.std.specs.Prelude.{◌≡◌, ℕ, zero, suc, ◌==◌, Bool, true, false, if◌then◌else◌, List, [], ◌∷◌, slice_get, Some, None}
use Rattle.std.specs.List.{slice_index_or}
use Rattle.machine.specs.TwoWay.{TwoWay}
use Rattle.pcode_model.specs.declared.listing.Listing.{Listing}
use Rattle.pcode_model.specs.World.{Entry}
use Rattle.cmeaning.specs.declared.tree.ArithmeticOp.TheVariants.{Add}
use Rattle.cmeaning.specs.declared.tree.Expr.TheVariants as E
use Rattle.cmeaning.specs.declared.tree.Stmt.{Stmt}
use Rattle.cmeaning.specs.declared.tree.Stmt.TheVariants as S
use Rattle.cmeaning.specs.Examples.{gave, one}
use Rattle.cmeaning.specs.Examples as example
use Rattle.blockcode.specs.declared.code.Exit.{Exit}
use Rattle.blockcode.specs.declared.code.Exit.TheVariants as X
use Rattle.blockcode.specs.declared.code.Block.{Block}
use Rattle.edges.specs.Run.{Blocks, seen_blocks}
use Rattle.edges.specs.Live.{Live, LiveIn, Interfere}
use Rattle.edges.specs.Leave.{Shape, left_of}

abbrev pub block : List Stmt → Exit → Block
block body exit = record { body = body; exit = exit }

-- Variables of 4 bytes, which begin with these words, and the others with 0.
abbrev pub small : List ℕ → List Block → (ℕ → ℕ → ℕ → ℕ) → Blocks
small words blocks through = record {
  entry = 0;
  widths = λ v. 4;
  first = λ l e v. Some (slice_index_or words v 0);
  block = λ b. slice_get blocks b;
  through = through;
}

-- no edge renames
abbrev pub plain : ℕ → ℕ → ℕ → ℕ
plain b c v = v

abbrev pub return_of : ℕ → Exit
return_of v = X.Return (Some (E.Var v))

-- ---- a swap over an edge

-- Over each edge to block 1: 2 has what 0 has, or 3, and 3 what 1 has, or 2.
abbrev pub swapping : ℕ → ℕ → ℕ → ℕ
swapping b c v =
    if c == 1
    then (if v == 2 then (if b == 0 then 0 else 3) else (if v == 3 then (if b == 0 then 1 else 2) else v))
    else v

-- Block 1 goes on while 2 isn't 0, and block 2 gives 3.
abbrev pub swap : Blocks
swap =
    small (1 ∷ 0 ∷ [])
    (block [] (X.Jump 1) ∷ block [] (X.Test (E.Var 2) 1 2) ∷ block [] (return_of 3) ∷ [])
    swapping

-- the loop with copies in turn, of which the second reads what the first wrote
abbrev pub swap_in_turn : Blocks
swap_in_turn =
    small (0 ∷ 0 ∷ 1 ∷ 0 ∷ [])
    (block [] (X.Test (E.Var 2) 2 1)
    ∷ block [] (return_of 3)
    ∷ block (S.Assign 2 (E.Var 3) ∷ S.Assign 3 (E.Var 2) ∷ []) (X.Jump 0)
    ∷ [])
    plain

abbrev pub is_swap_head : ℕ → ℕ → Bool
is_swap_head b v = if b == 1 then (if v == 2 then true else v == 3) else false

abbrev pub swap_heads : ℕ → List ℕ
swap_heads zero = []
swap_heads (suc zero) = 2 ∷ 3 ∷ []
swap_heads (suc (suc n)) = []

abbrev pub swap_next : ℕ → List (ℕ × ℕ)
swap_next zero = (1, 2) ∷ (1, 3) ∷ []
swap_next (suc zero) = (1, 2) ∷ (1, 3) ∷ []
swap_next (suc (suc n)) = []

-- its MULTIEQUALs, 2 and 3, with 6 and 7 beside them
abbrev pub swap_shape : Shape
swap_shape =
    record { is_head = is_swap_head; heads = swap_heads; next = swap_next; fresh = λ v. suc (suc (suc (suc v))) }

-- All at once the edge swaps; in turn a word is lost. With copies to fresh variables it shows what it showed.
pub record Swap : Type 0 where
  pub at_once : (l : Listing) (e : Entry) → seen_blocks l swap e 4 ≡ gave 1
  pub in_turn : (l : Listing) (e : Entry) → seen_blocks l swap_in_turn e 6 ≡ gave 0
  pub left : (l : Listing) (e : Entry) → TwoWay (seen_blocks l swap e) (seen_blocks l (left_of swap_shape swap) e)

-- ---- a lost copy

-- over the edges to block 1, 1 has what 0 has, or 2
abbrev pub counting : ℕ → ℕ → ℕ → ℕ
counting b c v = if c == 1 then (if v == 1 then (if b == 0 then 0 else 2) else v) else v

abbrev pub count_up : Stmt
count_up = S.Assign 2 (E.Arithmetic Add (E.Var 1) one)

abbrev pub counts : Exit
counts = X.Switch (E.Var 2) (record { value = 1; to = 1 } ∷ record { value = 2; to = 2 } ∷ [])

-- Block 1 counts from 1 to 2, and goes on to block 2 where 2 is 2, which gives 1.
abbrev pub lost : Blocks
lost =
    small (0 ∷ [])
    (block [] (X.Jump 1) ∷ block (count_up ∷ []) counts ∷ block [] (return_of 1) ∷ [])
    counting

-- 1 and 2 as one variable
abbrev pub lost_as_one : Blocks
lost_as_one =
    small (0 ∷ [])
    (block (S.Assign 2 (E.Var 0) ∷ []) (X.Jump 1)
    ∷ block (S.Assign 2 (E.Arithmetic Add (E.Var 2) one) ∷ []) counts
    ∷ block [] (return_of 2)
    ∷ [])
    plain

-- What 1 held is lost where it is one with 2, which it interferes with.
pub record LostCopy : Type 0 where
  pub apart : (l : Listing) (e : Entry) → seen_blocks l lost e 6 ≡ gave 1
  pub as_one : (l : Listing) (e : Entry) → seen_blocks l lost_as_one e 7 ≡ gave 2
  pub interfere : (l : Listing) (e : Entry) → Interfere l lost e 1 2

-- ---- a variable that is live around a loop only

-- Block 0 is the loop, with these statements at its end, which goes on while 2 isn't 0; block 1 gives 2.
abbrev pub loop : List Stmt → Blocks
loop rest =
    small (0 ∷ 1 ∷ [])
    (block (S.Assign 2 (E.Var 1) ∷ rest) (X.Test (E.Var 2) 0 1) ∷ block [] (return_of 2) ∷ [])
    plain

-- The loop ends by what it assigns to 1 at its end; 1 isn't read behind it.
abbrev pub around : Blocks
around = loop (S.Assign 1 example.zero ∷ [])

-- At the loop's end 1 is live, though not in block 1; without its assignment there the loop goes on.
pub record AroundLoop : Type 0 where
  pub gives : (l : Listing) (e : Entry) → seen_blocks l around e 7 ≡ gave 0
  pub live : Live around 0 [] 1
  pub not_behind : LiveIn around 1 1 → ⊥
  pub without : (l : Listing) (e : Entry) → seen_blocks l (loop []) e 7 ≡ record { events = []; over = None }

-- ---- two parameters

abbrev pub both_params : Blocks
both_params =
    small (1 ∷ 2 ∷ []) (block [] (X.Return (Some (E.Arithmetic Add (E.Var 0) (E.Var 1)))) ∷ []) plain

-- The entry assigns both, so they interfere.
pub record TwoParameters : Type 0 where
  pub gives : (l : Listing) (e : Entry) → seen_blocks l both_params e 1 ≡ gave 3
  pub interfere : (l : Listing) (e : Entry) → Interfere l both_params e 0 1
