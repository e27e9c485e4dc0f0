-- The blocks of a flow by their numbers.
use Rattle.std.proofs.Common.{◌≡◌, ℕ, zero, suc, List, [], ◌∷◌, ◌++◌, Some, refl, sym, ap, ◌∙◌, subst, ⊎_elim}
use Rattle.std.specs.Prelude.{slice_get}
use Rattle.pcode_model.specs.declared.listing.Place.{Place}
use Rattle.pcode_model.specs.declared.listing.Listing.{Listing}
use Rattle.pcode_model.specs.declared.flow.Block.{Block}
use Rattle.pcode_model.specs.Flow.{AllRun, IsFlow, IsIn, Reached, RunsBlock, first_in, places_of, starts_of}
use Rattle.pcode_model.proofs.Members.{in_either}
use Rattle.frame_known.specs.declared.slots.Slots.{Slots}
use Rattle.frame_known.proofs.Along.{has_place}

module _ (l : Listing) (starts : List Place) where
  -- the block of a number begins with this place
  pub record Begins (blocks : List Block) (n : ℕ) (b : Block) : Type 0 where
    pub first : Place
    pub others : List Place
    pub places : b.places ≡ first ∷ others
    pub start : slice_get (starts_of blocks) n ≡ Some first
    pub runs : RunsBlock l [] starts (first ∷ others) b.exit

  head_begins : (b : Block) (blocks : List Block) (ps : List Place)
      → b.places ≡ ps
      → RunsBlock l [] starts ps b.exit
      → Begins (b ∷ blocks) 0 b
  head_begins b blocks [] is runs = absurd runs
  head_begins b blocks (p ∷ ps) is runs = record {
    first = p;
    others = ps;
    places = is;
    start = ap (λ x. slice_get (first_in x ++ starts_of blocks) 0) is;
    runs = runs;
  }

  later_start : (b : Block) (blocks : List Block) (n : ℕ) (ps : List Place)
      → b.places ≡ ps
      → RunsBlock l [] starts ps b.exit
      → slice_get (starts_of (b ∷ blocks)) (suc n) ≡ slice_get (starts_of blocks) n
  later_start b blocks n [] is runs = absurd runs
  later_start b blocks n (p ∷ ps) is runs = ap (λ x. slice_get (first_in x ++ starts_of blocks) (suc n)) is

  pub begins_at : (blocks : List Block) (n : ℕ) (b : Block)
      → AllRun l [] starts blocks
      → slice_get blocks n ≡ Some b
      → Begins blocks n b
  begins_at [] n b all e = absurd (cc)
  begins_at (x ∷ blocks) zero b all e =
      let same : x ≡ b = cc in
      subst (λ y. Begins (x ∷ blocks) 0 y) same (head_begins x blocks x.places refl all.0)
  begins_at (x ∷ blocks) (suc n) b all e =
      let r = begins_at blocks n b all.1 e in
      record {
        first = r.first;
        others = r.others;
        places = r.places;
        start = later_start x blocks n x.places refl all.0 ∙ r.start;
        runs = r.runs;
      }

  -- the block that begins at the start of a number
  pub starts_at : (blocks : List Block) (n : ℕ) (p : Place)
      → AllRun l [] starts blocks
      → slice_get (starts_of blocks) n ≡ Some p
      → (b : Block) × (slice_get blocks n ≡ Some b)
  starts_at [] n p all e = absurd (cc)
  starts_at (x ∷ blocks) zero p all e = (x, refl)
  starts_at (x ∷ blocks) (suc n) p all e =
      starts_at blocks n p all.1 (sym (later_start x blocks n x.places refl all.0) ∙ e)

-- the block of a place
pub block_of : (blocks : List Block) (p : Place)
    → IsIn p (places_of blocks)
    → (n : ℕ) × ((b : Block) × ((slice_get blocks n ≡ Some b) × IsIn p b.places))
block_of [] p h = absurd h
block_of (x ∷ blocks) p h =
    ⊎_elim (λ a. (0, (x, (refl, a))))
    (λ r. let y = block_of blocks p r in (suc y.0, (y.1.0, y.1.1)))
    (in_either x.places (places_of blocks) p h)

module _ (l : Listing) (s : Slots) (blocks : List Block) (flow : IsFlow l [] blocks) where
  -- each place of a block is reached
  pub block_reached : (n : ℕ) (b : Block) (p : Place) → slice_get blocks n ≡ Some b → IsIn p b.places → Reached l [] p
  block_reached n b p e h = (flow.each p).0 (has_place l s blocks n b p e h)
