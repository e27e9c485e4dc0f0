-- Lists of which each thing comes before all that stand behind it, and that what a walk finds is one.
use Rattle.std.proofs.Common.{◌≡◌, List, [], ◌∷◌, ◌++◌, Option, Some, None, refl, sym, subst, inl, inr, ⊎_elim}
use Rattle.pcode_model.specs.declared.listing.Place.{Place}
use Rattle.pcode_model.specs.declared.listing.Listing.{Listing}
use Rattle.pcode_model.specs.declared.flow.Block.{Block}
use Rattle.pcode_model.specs.Places.{standing}
use Rattle.pcode_model.specs.Flow.{IsBefore, IsIn, Rising, places_of}
use Rattle.pcode_model.proofs.Members.{behind, in_either, in_front}
use Rattle.flow.proofs.Order.{before_trans}
use Rattle.frame_facts.specs.Listed.{InOrderBy}
use Rattle.frame_known.specs.declared.slots.Slots.{Slots}
use Rattle.frame_known.specs.Rows.{Row, over_row}
use Rattle.frames.specs.Walk.{along, along_from, by_blocks}

module _ {A : Type 0} (before : A → A → Type 0) where
  abbrev pub AreSorted : List A → Type 0
  AreSorted [] = Unit {0}
  AreSorted (x ∷ xs) = ((y : A) → IsIn y xs → before x y) × AreSorted xs

  pub in_order : (xs : List A) → AreSorted xs → InOrderBy before xs
  in_order [] h = tt
  in_order (x ∷ []) h = tt
  in_order (x ∷ y ∷ xs) h = (h.0 y (inl refl), in_order (y ∷ xs) h.1)

  pub both_sorted : (xs ys : List A)
      → AreSorted xs
      → AreSorted ys
      → ((x y : A) → IsIn x xs → IsIn y ys → before x y)
      → AreSorted (xs ++ ys)
  both_sorted [] ys h g across = g
  both_sorted (x ∷ xs) ys h g across = (
    λ y is. ⊎_elim (λ (p : IsIn y xs). h.0 y p) (λ (q : IsIn y ys). across x y (inl refl) q) (in_either xs ys y is),
    both_sorted xs ys h.1 g (λ z y p q. across z y (inr p) q),
  )

  pub sorted_front : (xs ys : List A) → AreSorted (xs ++ ys) → AreSorted xs
  sorted_front [] ys h = tt
  sorted_front (x ∷ xs) ys h = (λ y is. h.0 y (in_front xs ys y is), sorted_front xs ys h.1)

  pub sorted_back : (xs ys : List A) → AreSorted (xs ++ ys) → AreSorted ys
  sorted_back [] ys h = h
  sorted_back (x ∷ xs) ys h = sorted_back xs ys h.1

  pub sorted_across : (xs ys : List A) → AreSorted (xs ++ ys) → (x y : A) → IsIn x xs → IsIn y ys → before x y
  sorted_across [] ys h x y p q = absurd p
  sorted_across (z ∷ xs) ys h x y (inl same) q =
      let P : A → Type 0 = λ w. before w y in
      subst P (sym same) (h.0 y (behind xs ys y q))
  sorted_across (z ∷ xs) ys h x y (inr p) q = sorted_across xs ys h.1 x y p q

-- ---- places

first_before : (p q : Place) (ps : List Place)
    → IsBefore p q
    → Rising (q ∷ ps)
    → (r : Place)
    → IsIn r (q ∷ ps)
    → IsBefore p r
first_before p q ps less up r (inl same) = let P : Place → Type 0 = λ x. IsBefore p x in subst P (sym same) less
first_before p q [] less up r (inr h) = absurd h
first_before p q (t ∷ ps) less up r (inr h) = first_before p t ps (before_trans p q t less up.0) up.1 r h

-- places that rise one by one rise from each to all behind it
pub places_sorted : (ps : List Place) → Rising ps → AreSorted IsBefore ps
places_sorted [] up = tt
places_sorted (p ∷ []) up = (λ q h. absurd h, tt)
places_sorted (p ∷ q ∷ ps) up = (λ r h. first_before p q ps up.0 up.1 r h, places_sorted (q ∷ ps) up.1)

-- ---- what is found at places

module _
    {A : Type 0}
    (at : A → Place)
    (before : A → A → Type 0)
    (respects : (x y : A) → IsBefore (at x) (at y) → before x y)
  where
    module _ (h : Option Row → List Place → List A)
        (own : (r : Option Row) (ps : List Place) (x : A) → IsIn x (h r ps) → IsIn (at x) ps)
        (each : (r : Option Row) (ps : List Place) → AreSorted IsBefore ps → AreSorted before (h r ps))
      where
        own_blocks : (rows : List (Option Row)) (blocks : List Block) (x : A)
            → IsIn x (by_blocks h rows blocks)
            → IsIn (at x) (places_of blocks)
        own_blocks rows [] x is = absurd is
        own_blocks [] (b ∷ bs) x is = absurd is
        own_blocks (r ∷ rows) (b ∷ bs) x is = ⊎_elim
            (λ (p : IsIn x (h r b.places)). in_front b.places (places_of bs) (at x) (own r b.places x p))
            (λ (q : IsIn x (by_blocks h rows bs)). behind b.places (places_of bs) (at x) (own_blocks rows bs x q))
            (in_either (h r b.places) (by_blocks h rows bs) x is)

        pub blocks_sorted : (rows : List (Option Row)) (blocks : List Block)
            → AreSorted IsBefore (places_of blocks)
            → AreSorted before (by_blocks h rows blocks)
        blocks_sorted rows [] up = tt
        blocks_sorted [] (b ∷ bs) up = tt
        blocks_sorted (r ∷ rows) (b ∷ bs) up =
            both_sorted before (h r b.places) (by_blocks h rows bs)
            (each r b.places (sorted_front IsBefore b.places (places_of bs) up))
            (blocks_sorted rows bs (sorted_back IsBefore b.places (places_of bs) up))
            (λ x y p q. respects x y (sorted_across IsBefore b.places (places_of bs) up (at x) (at y)
            (own r b.places x p) (own_blocks rows bs y q)))

    module _ (l : Listing) (s : Slots) (g : Row → Place → List A)
        (here : (row : Row) (p : Place) (x : A) → IsIn x (g row p) → at x ≡ p)
        (one : (row : Row) (p : Place) → AreSorted before (g row p))
      where
        along_own : (row : Row) (ps : List Place) (x : A) → IsIn x (along g l s row ps) → IsIn (at x) ps
        along_own row [] x is = absurd is
        along_own row (p ∷ ps) x is =
            let next = over_row l s row (standing l p) in
            ⊎_elim
            (λ (h : IsIn x (g row p)). inl (here row p x h))
            (λ (h : IsIn x (along g l s next ps)). inr (along_own next ps x h))
            (in_either (g row p) (along g l s next ps) x is)

        along_sorted : (row : Row) (ps : List Place) → AreSorted IsBefore ps → AreSorted before (along g l s row ps)
        along_sorted row [] up = tt
        along_sorted row (p ∷ ps) up =
            let next = over_row l s row (standing l p) in
            both_sorted before (g row p) (along g l s next ps) (one row p) (along_sorted next ps up.1)
            (λ x y a b.
            let P : Place → Type 0 = λ q. IsBefore q (at y) in
            respects x y (subst P (sym (here row p x a)) (up.0 (at y) (along_own next ps y b))))

        pub from_own : (r : Option Row) (ps : List Place) (x : A) → IsIn x (along_from g l s r ps) → IsIn (at x) ps
        from_own None ps x is = absurd is
        from_own (Some row) ps x is = along_own row ps x is

        pub from_sorted : (r : Option Row) (ps : List Place)
            → AreSorted IsBefore ps
            → AreSorted before (along_from g l s r ps)
        from_sorted None ps up = tt
        from_sorted (Some row) ps up = along_sorted row ps up
