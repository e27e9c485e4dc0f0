-- What a walk finds is what there is at the blocks' places, each with the row before it.
use Rattle.std.proofs.Common.{◌≡◌, ℕ, zero, suc, List, [], ◌∷◌, Option, Some, None, refl, sym, subst, inl, inr, ⊎_elim}
use Rattle.std.specs.Prelude.{slice_get}
use Rattle.pcode_model.specs.declared.listing.Place.{Place}
use Rattle.pcode_model.specs.declared.listing.Listing.{Listing}
use Rattle.pcode_model.specs.declared.flow.Block.{Block}
use Rattle.pcode_model.specs.Places.{standing}
use Rattle.pcode_model.specs.Flow.{IsIn, places_of}
use Rattle.pcode_model.proofs.Members.{behind, in_either, in_front}
use Rattle.frame_known.specs.declared.slots.Slots.{Slots}
use Rattle.frame_known.specs.Rows.{Row, over_row}
use Rattle.frame_known.specs.Known.{Before}
use Rattle.frames.specs.Walk.{along, along_from, in_blocks}

-- a place of a block, with the row before it
pub record IsPlaceOf (l : Listing) (s : Slots) (rows : List (Option Row)) (blocks : List Block) (p : Place) (r : Row)
    : Type 0 where
  pub number : ℕ
  pub block : Block
  pub row : Row
  pub here : slice_get blocks number ≡ Some block
  pub known : slice_get rows number ≡ Some (Some row)
  pub before : Before l s row block.places p r

module _ {A : Type 0} (g : Row → Place → List A) (l : Listing) (s : Slots) (x : A) where
  -- where it is found
  abbrev FoundAlong : Row → List Place → Type 0
  FoundAlong row ps = (p : Place) × ((r : Row) × (Before l s row ps p r × IsIn x (g r p)))

  along_to : (row : Row) (ps : List Place) → IsIn x (along g l s row ps) → FoundAlong row ps
  along_to row [] h = absurd h
  along_to row (p ∷ ps) h =
      let next = over_row l s row (standing l p) in
      ⊎_elim
      (λ (here : IsIn x (g row p)). (p, (row, (inl (refl, refl), here))))
      (λ (later : IsIn x (along g l s next ps)).
      let f = along_to next ps later in (f.0, (f.1.0, (inr f.1.1.0, f.1.1.1))))
      (in_either (g row p) (along g l s next ps) x h)

  along_back : (row : Row) (ps : List Place) (p : Place) (r : Row)
      → Before l s row ps p r
      → IsIn x (g r p)
      → IsIn x (along g l s row ps)
  along_back row [] p r before h = absurd before
  along_back row (q ∷ ps) p r (inl same) h =
      let P : Place → Type 0 = λ y. IsIn x (g row y) in
      let R : Row → Type 0 = λ y. IsIn x (g y p) in
      in_front (g row q) (along g l s (over_row l s row (standing l q)) ps) x (subst P same.0 (subst R same.1 h))
  along_back row (q ∷ ps) p r (inr later) h =
      let next = over_row l s row (standing l q) in
      behind (g row q) (along g l s next ps) x (along_back next ps p r later h)

  pub record IsFound (rows : List (Option Row)) (blocks : List Block) : Type 0 where
    pub place : Place
    pub row : Row
    pub is_place : IsPlaceOf l s rows blocks place row
    pub is_there : IsIn x (g row place)

  from_later : (o : Option Row) (rows : List (Option Row)) (b : Block) (blocks : List Block)
      → IsFound rows blocks
      → IsFound (o ∷ rows) (b ∷ blocks)
  from_later o rows b blocks f =
      let at = f.is_place in record {
        place = f.place;
        row = f.row;
        is_place = record {
          number = suc at.number;
          block = at.block;
          row = at.row;
          here = at.here;
          known = at.known;
          before = at.before;
        };
        is_there = f.is_there;
      }

  from_first : (o : Option Row) (rows : List (Option Row)) (b : Block) (blocks : List Block)
      → IsIn x (along_from g l s o b.places)
      → IsFound (o ∷ rows) (b ∷ blocks)
  from_first None rows b blocks h = absurd h
  from_first (Some row) rows b blocks h =
      let f = along_to row b.places h in record {
        place = f.0;
        row = f.1.0;
        is_place = record { number = 0; block = b; row = row; here = refl; known = refl; before = f.1.1.0 };
        is_there = f.1.1.1;
      }

  -- What is found is there at a place.
  pub found_to : (rows : List (Option Row)) (blocks : List Block)
      → IsIn x (in_blocks g l s rows blocks)
      → IsFound rows blocks
  found_to rows [] h = absurd h
  found_to [] (b ∷ bs) h = absurd h
  found_to (o ∷ rows) (b ∷ bs) h = ⊎_elim
      (λ (here : IsIn x (along_from g l s o b.places)). from_first o rows b bs here)
      (λ (later : IsIn x (in_blocks g l s rows bs)). from_later o rows b bs (found_to rows bs later))
      (in_either (along_from g l s o b.places) (in_blocks g l s rows bs) x h)

  -- And what is there at a place is found.
  pub found_back : (rows : List (Option Row)) (blocks : List Block) (n : ℕ) (b : Block) (row : Row) (p : Place) (r : Row)
      → slice_get blocks n ≡ Some b
      → slice_get rows n ≡ Some (Some row)
      → Before l s row b.places p r
      → IsIn x (g r p)
      → IsIn x (in_blocks g l s rows blocks)
  found_back rows [] n b row p r here known before h = absurd (cc)
  found_back [] (c ∷ cs) n b row p r here known before h = absurd (cc)
  found_back (o ∷ rows) (c ∷ cs) zero b row p r here known before h =
      let same : c ≡ b = cc in
      let is : o ≡ Some row = cc in
      let there = along_back row b.places p r before h in
      let B : Block → Type 0 = λ y. IsIn x (along g l s row y.places) in
      let O : Option Row → Type 0 = λ y. IsIn x (along_from g l s y c.places) in
      in_front (along_from g l s o c.places) (in_blocks g l s rows cs) x
      (subst O (sym is) (subst B (sym same) there))
  found_back (o ∷ rows) (c ∷ cs) (suc n) b row p r here known before h =
      behind (along_from g l s o c.places) (in_blocks g l s rows cs) x
      (found_back rows cs n b row p r here known before h)

-- ---- places of blocks

-- each place of places that follow one another has a row before it
pub has_before : (l : Listing) (s : Slots) (row : Row) (ps : List Place) (p : Place)
    → IsIn p ps
    → (r : Row) × Before l s row ps p r
has_before l s row [] p h = absurd h
has_before l s row (q ∷ ps) p (inl same) = (row, inl (same, refl))
has_before l s row (q ∷ ps) p (inr later) =
    let r = has_before l s (over_row l s row (standing l q)) ps p later in (r.0, inr r.1)

pub before_in : (l : Listing) (s : Slots) (row : Row) (ps : List Place) (p : Place) (r : Row)
    → Before l s row ps p r
    → IsIn p ps
before_in l s row [] p r h = absurd h
before_in l s row (q ∷ ps) p r (inl same) = inl same.0
before_in l s row (q ∷ ps) p r (inr later) = inr (before_in l s (over_row l s row (standing l q)) ps p r later)

pub in_places : (blocks : List Block) (n : ℕ) (b : Block) (p : Place)
    → slice_get blocks n ≡ Some b
    → IsIn p b.places
    → IsIn p (places_of blocks)
in_places [] n b p here h = absurd (cc)
in_places (c ∷ cs) zero b p here h =
    let same : b ≡ c = cc in
    let P : Block → Type 0 = λ y. IsIn p y.places in
    in_front c.places (places_of cs) p (subst P same h)
in_places (c ∷ cs) (suc n) b p here h = behind c.places (places_of cs) p (in_places cs n b p here h)
