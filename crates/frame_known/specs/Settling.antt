-- What holds as blocks are passed. This project's own.
use Rattle.std.specs.Prelude.{◌≡◌, ℕ, true, false, Bool, List, [], length, slice_get, Option, Some, ◌⊎◌}
use Rattle.pcode_model.specs.declared.listing.Place.{Place}
use Rattle.pcode_model.specs.declared.listing.Varnode.{Varnode}
use Rattle.pcode_model.specs.declared.listing.Listing.{Listing}
use Rattle.pcode_model.specs.declared.flow.Block.{Block}
use Rattle.pcode_model.specs.Step.{first_place}
use Rattle.pcode_model.specs.Flow.{IsIn, starts_of}
use Rattle.frame_facts.specs.Facts.{AreSupported, Facts, Known}
use Rattle.frame_known.specs.declared.slots.Slots.{Slots}
use Rattle.frame_known.specs.Rows.{IsRow, Row, knows}
use Rattle.frame_known.specs.Meeting.{along}
use Rattle.frame_known.specs.Entering.{nexts, row_at, waits_at}

abbrev pub KnowsNoLess : Known → Known → Type 0
KnowsNoLess h k = (v : Varnode) (c : ℕ) → h v c ≡ true → k v c ≡ true

-- what is owed to these blocks from the end of one
abbrev pub Owes : ℕ → List ℕ → ℕ → ℕ → Type 0
Owes n ms j m = (j ≡ n) × IsIn m ms

abbrev pub Nothing_owed : ℕ → ℕ → Type 0
Nothing_owed n m = ⊥

module _ (l : Listing) (s : Slots) (blocks : List Block) where
  -- what is known where the block of a number begins is known at the end of a block that has this row
  abbrev pub IsDone : List (Option Row) → Row → Block → ℕ → Type 0
  IsDone rows row b m =
      (row' : Row) × ((row_at rows m ≡ Some row') × KnowsNoLess (knows s row') (knows s (along l s row b.places)))

  -- What holds as blocks are passed. What is known at the end of a block that doesn't wait was brought to each block
  -- behind it, but for what is owed still.
  pub record Settling (owed : ℕ → ℕ → Type 0) (rows : List (Option Row)) (waits : List Bool) : Type 0 where
    pub long : length rows ≡ length blocks
    pub long_waits : length waits ≡ length blocks
    pub fine : (n : ℕ) (row : Row) → row_at rows n ≡ Some row → IsRow s row
    pub start : (n : ℕ) (row : Row) (v : Varnode) (c : ℕ)
        → slice_get (starts_of blocks) n ≡ Some (first_place l)
        → row_at rows n ≡ Some row
        → knows s row v c ≡ true
        → (l.stack ≡ Some v) × (c ≡ 0)
    pub begun : (n : ℕ) → slice_get (starts_of blocks) n ≡ Some (first_place l) → (row : Row) × (row_at rows n ≡ Some row)
    pub all : (f : Facts) (n : ℕ) (p : Place) (row : Row)
        → AreSupported l [] f
        → slice_get (starts_of blocks) n ≡ Some p
        → row_at rows n ≡ Some row
        → KnowsNoLess (f p) (knows s row)
    pub done : (n : ℕ) (b : Block) (row : Row) (m : ℕ)
        → slice_get blocks n ≡ Some b
        → row_at rows n ≡ Some row
        → waits_at waits n ≡ false
        → IsIn m (nexts b.exit)
        → IsDone rows row b m ⊎ owed n m
    pub waited : (n : ℕ) → waits_at waits n ≡ true → (row : Row) × (row_at rows n ≡ Some row)

  -- no block waits
  pub record Settled (rows : List (Option Row)) : Type 0 where
    pub waits : List Bool
    pub settling : Settling Nothing_owed rows waits
    pub none : (n : ℕ) → waits_at waits n ≡ false
