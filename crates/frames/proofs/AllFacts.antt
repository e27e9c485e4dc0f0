-- The facts that are found are those where blocks begin, in their order.
use Rattle.std.proofs.Common.{◌≡◌, ◌<◌, ◌≤◌, ◌/◌, ◌^◌, ℕ, zero, suc, Bool, true, false, List, [], ◌∷◌, ◌++◌, length, get_or, Option, Some, None, refl, sym, ap, ◌∙◌, subst, inl, inr, ⊎_elim, arith}
use Rattle.std.specs.Prelude.{cond, slice_get, ◌==◌}
use Rattle.std.proofs.lemmas.Bool.{cases_lt, eq-eqb, eqb-true, ne_eqb}
use Rattle.std.proofs.lemmas.Option.{slice_get_within}
use Rattle.pcode_model.specs.declared.listing.Place.{Place}
use Rattle.pcode_model.specs.declared.listing.Varnode.{Varnode}
use Rattle.pcode_model.specs.declared.listing.Listing.{Listing}
use Rattle.pcode_model.specs.declared.flow.Block.{Block}
use Rattle.pcode_model.specs.declared.frame.OffsetFact.{OffsetFact}
use Rattle.pcode_model.specs.Flow.{IsBefore, IsFlow, IsIn, first_in, starts_of}
use Rattle.pcode_model.proofs.Members.{behind, in_either, in_front}
use Rattle.frame_facts.specs.Accesses.{signed_offset}
use Rattle.frame_facts.specs.Listed.{IsFactBefore, IsListedFact, IsRangeBefore, Lists}
use Rattle.frame_known.specs.declared.slots.Slots.{Slots}
use Rattle.frame_known.specs.Slots.{is_wide, key, range_of}
use Rattle.frame_known.specs.Rows.{Row, offset_in, offset_of}
use Rattle.frame_known.proofs.Entries.{Rises, rises_rest}
use Rattle.frame_known.proofs.Ranges.{is_wide_from, key_back, range_back, wide_is}
use Rattle.frame_known.specs.Known.{AreRows, Before}
use Rattle.frames.specs.Walk.{fact_in, facts_found, facts_from, facts_of}
use Rattle.frames.proofs.Places.{fact_of, known_of}
use Rattle.frames.proofs.Sorted.{AreSorted, blocks_sorted, both_sorted, in_order, places_sorted}
use Rattle.frames.proofs.Walk.{IsPlaceOf}

-- ---- one row

abbrev AreRising : List ℕ → Type 0
AreRising ks = AreSorted (λ (m : ℕ) (n : ℕ). m < n) ks

member_index : (ks : List ℕ) (n : ℕ) → IsIn n ks → (i : ℕ) × ((i < length ks) × (get_or ks i 0 ≡ n))
member_index [] n h = absurd h
member_index (k ∷ ks) n (inl same) = (0, (omega arith, sym same))
member_index (k ∷ ks) n (inr h) = let r = member_index ks n h in (suc r.0, (omega (arith, r.1.0), r.1.1))

pub rising_of : (ks : List ℕ) → Rises ks → AreRising ks
rising_of [] up = tt
rising_of (k ∷ ks) up = (
  λ n h. let r = member_index ks n h in
      let less : k < get_or ks r.0 0 = up 0 (suc r.0) (omega arith) (omega (arith, r.1.0)) in
      omega (arith, less, r.1.1),
  rising_of ks (rises_rest k ks up),
)

module _ (l : Listing) (p : Place) (w : ℕ) (x : OffsetFact) where
  -- a slot with an offset
  record IsSlotFact (ks : List ℕ) (row : Row) : Type 0 where
    number : ℕ
    offset : ℕ
    among : IsIn number ks
    known : offset_in ks row number ≡ Some offset
    is : x ≡ record { place = p; range = range_of w number; offset = signed_offset l offset }

  in_one : (k : ℕ) (r : Option ℕ)
      → IsIn x (fact_in l p w k r)
      → (c : ℕ) × ((r ≡ Some c) × (x ≡ record { place = p; range = range_of w k; offset = signed_offset l c }))
  in_one k None h = absurd h
  in_one k (Some c) (inl same) = (c, (refl, same))
  in_one k (Some c) (inr h) = absurd h

  facts_to : (ks : List ℕ) (row : Row) → AreRising ks → IsIn x (facts_of l p w ks row) → IsSlotFact ks row
  facts_to [] row up h = absurd h
  facts_to (k ∷ ks) [] up h = absurd h
  facts_to (k ∷ ks) (r ∷ row) up h = ⊎_elim
      (λ (here : IsIn x (fact_in l p w k r)).
      let c = in_one k r here in
      record {
        number = k;
        offset = c.0;
        among = inl refl;
        known = ap (λ b. cond b r (offset_in ks row k)) (eq-eqb k k refl) ∙ c.1.0;
        is = c.1.1;
      })
      (λ (later : IsIn x (facts_of l p w ks row)).
      let f = facts_to ks row up.1 later in
      let less = up.0 f.number f.among in
      record {
        number = f.number;
        offset = f.offset;
        among = inr f.among;
        known = ap (λ b. cond b r (offset_in ks row f.number)) (ne_eqb k f.number (λ e. omega (arith, less, e)))
            ∙ f.known;
        is = f.is;
      })
      (in_either (fact_in l p w k r) (facts_of l p w ks row) x h)

  facts_back : (ks : List ℕ) (row : Row) (n c : ℕ)
      → offset_in ks row n ≡ Some c
      → x ≡ record { place = p; range = range_of w n; offset = signed_offset l c }
      → IsIn x (facts_of l p w ks row)
  facts_back [] row n c known is = absurd (cc)
  facts_back (k ∷ ks) [] n c known is = absurd (cc)
  facts_back (k ∷ ks) (r ∷ row) n c known is = by (k == n) refl known (λ e. facts_back ks row n c e is)
    where
      by : (b : Bool)
          → (k == n) ≡ b
          → cond b r (offset_in ks row n) ≡ Some c
          → (offset_in ks row n ≡ Some c → IsIn x (facts_of l p w ks row))
          → IsIn x (fact_in l p w k r ++ facts_of l p w ks row)
      by true e h later =
          let same : k ≡ n = eqb-true k n e in
          let R : Option ℕ → Type 0 = λ o. IsIn x (fact_in l p w k o) in
          let N : ℕ → Type 0 = λ m. IsIn x (fact_in l p w m (Some c)) in
          in_front (fact_in l p w k r) (facts_of l p w ks row) x (subst R (sym h) (subst N (sym same) (inl is)))
      by false e h later = behind (fact_in l p w k r) (facts_of l p w ks row) x (later h)

-- ---- in order

range_rises : (w k n : ℕ) → k < n → IsRangeBefore (range_of w k) (range_of w n)
range_rises w k n less = ⊎_elim
    (λ (lower : k / 2 ^ 64 < n / 2 ^ 64). inl lower)
    (λ (not_lower : n / 2 ^ 64 ≤ k / 2 ^ 64).
    let same : k / 2 ^ 64 ≡ n / 2 ^ 64 = omega (arith, less, not_lower) in
    inr (same, omega (arith, less, same)))
    (cases_lt (k / 2 ^ 64) (n / 2 ^ 64))

module _ (l : Listing) (p : Place) (w : ℕ) where
  one_sorted : (k : ℕ) (r : Option ℕ) → AreSorted IsFactBefore (fact_in l p w k r)
  one_sorted k None = tt
  one_sorted k (Some c) = (λ y h. absurd h, tt)

  facts_sorted : (ks : List ℕ) (row : Row) → AreRising ks → AreSorted IsFactBefore (facts_of l p w ks row)
  facts_sorted [] row up = tt
  facts_sorted (k ∷ ks) [] up = tt
  facts_sorted (k ∷ ks) (r ∷ row) up =
      both_sorted IsFactBefore (fact_in l p w k r) (facts_of l p w ks row) (one_sorted k r) (facts_sorted ks row up.1)
      (λ x y a b.
      let f = in_one l p w x k r a in
      let g = facts_to l p w y ks row up.1 b in
      let less = range_rises w k g.number (up.0 g.number g.among) in
      let X : Varnode → Type 0 = λ v. IsRangeBefore v y.range in
      let Y : Varnode → Type 0 = λ v. IsRangeBefore (range_of w k) v in
      inr (
        ap (λ (z : OffsetFact). z.place) f.1.1 ∙ sym (ap (λ (z : OffsetFact). z.place) g.is),
        subst X (sym (ap (λ (z : OffsetFact). z.range) f.1.1))
            (subst Y (sym (ap (λ (z : OffsetFact). z.range) g.is)) less),
      ))

-- ---- all

module _
    (l : Listing)
    (blocks : List Block)
    (s : Slots)
    (rows : List (Option Row))
    (are : AreRows l blocks s rows)
    (flow : IsFlow l [] blocks)
    (up : AreRising s.keys.items)
  where
    -- a block that begins at a place, and its row
    record Begins (rs : List (Option Row)) (bs : List Block) (p : Place) (row : Row) : Type 0 where
      number : ℕ
      block : Block
      others : List Place
      here : slice_get bs number ≡ Some block
      known : slice_get rs number ≡ Some (Some row)
      places : block.places ≡ p ∷ others

    record IsFoundFact (x : OffsetFact) (rs : List (Option Row)) (bs : List Block) : Type 0 where
      place : Place
      row : Row
      begins : Begins rs bs place row
      slot : IsSlotFact l place s.width x s.keys.items row

    later_fact : (x : OffsetFact) (o : Option Row) (rs : List (Option Row)) (b : Block) (bs : List Block)
        → IsFoundFact x rs bs
        → IsFoundFact x (o ∷ rs) (b ∷ bs)
    later_fact x o rs b bs f =
        let g = f.begins in record {
          place = f.place;
          row = f.row;
          begins = record {
            number = suc g.number;
            block = g.block;
            others = g.others;
            here = g.here;
            known = g.known;
            places = g.places;
          };
          slot = f.slot;
        }

    first_fact : (x : OffsetFact) (o : Option Row) (rs : List (Option Row)) (b : Block) (bs : List Block)
        (ps : List Place)
        → b.places ≡ ps
        → IsIn x (facts_from l s o ps)
        → IsFoundFact x (o ∷ rs) (b ∷ bs)
    first_fact x None rs b bs ps e h = absurd h
    first_fact x (Some row) rs b bs [] e h = absurd h
    first_fact x (Some row) rs b bs (p ∷ ps) e h = record {
      place = p;
      row = row;
      begins = record { number = 0; block = b; others = ps; here = refl; known = refl; places = e };
      slot = facts_to l p s.width x s.keys.items row up h;
    }

    fact_found : (x : OffsetFact) (rs : List (Option Row)) (bs : List Block)
        → IsIn x (facts_found l s rs bs)
        → IsFoundFact x rs bs
    fact_found x rs [] h = absurd h
    fact_found x [] (b ∷ bs) h = absurd h
    fact_found x (o ∷ rs) (b ∷ bs) h = ⊎_elim
        (λ (here : IsIn x (facts_from l s o b.places)). first_fact x o rs b bs b.places refl here)
        (λ (later : IsIn x (facts_found l s rs bs)). later_fact x o rs b bs (fact_found x rs bs later))
        (in_either (facts_from l s o b.places) (facts_found l s rs bs) x h)

    fact_there : (x : OffsetFact) (rs : List (Option Row)) (bs : List Block) (p : Place) (row : Row)
        → Begins rs bs p row
        → IsIn x (facts_of l p s.width s.keys.items row)
        → IsIn x (facts_found l s rs bs)
    fact_there x rs bs p row begins h = by rs bs begins.number begins.here begins.known
      where
        by : (rs : List (Option Row)) (bs : List Block) (n : ℕ)
            → slice_get bs n ≡ Some begins.block
            → slice_get rs n ≡ Some (Some row)
            → IsIn x (facts_found l s rs bs)
        by rs [] n here known = absurd (cc)
        by [] (b ∷ bs) n here known = absurd (cc)
        by (o ∷ rs) (b ∷ bs) zero here known =
            let same : b ≡ begins.block = cc in
            let is : o ≡ Some row = cc in
            let O : Option Row → Type 0 = λ y. IsIn x (facts_from l s y b.places) in
            let P : List Place → Type 0 = λ ps. IsIn x (facts_from l s (Some row) ps) in
            in_front (facts_from l s o b.places) (facts_found l s rs bs) x
            (subst O (sym is) (subst P (sym (ap (λ (c : Block). c.places) same ∙ begins.places)) h))
        by (o ∷ rs) (b ∷ bs) (suc n) here known =
            behind (facts_from l s o b.places) (facts_found l s rs bs) x (by rs bs n here known)

    place_at : (p : Place) (row : Row) → Begins rows blocks p row → IsPlaceOf l s rows blocks p row
    place_at p row begins =
        let P : List Place → Type 0 = λ ps. Before l s row ps p row in record {
          number = begins.number;
          block = begins.block;
          row = row;
          here = begins.here;
          known = begins.known;
          before = subst P (sym begins.places) (inl (refl, refl));
        }

    start_in : (bs : List Block) (n : ℕ) (b : Block) (p : Place) (ps : List Place)
        → slice_get bs n ≡ Some b
        → b.places ≡ p ∷ ps
        → IsIn p (starts_of bs)
    start_in [] n b p ps here e = absurd (cc)
    start_in (c ∷ cs) zero b p ps here e =
        let same : c ≡ b = cc in
        let P : List Place → Type 0 = λ qs. IsIn p (first_in qs) in
        in_front (first_in c.places) (starts_of cs) p
        (subst P (sym (ap (λ (x : Block). x.places) same ∙ e)) (inl refl))
    start_in (c ∷ cs) (suc n) b p ps here e =
        behind (first_in c.places) (starts_of cs) p (start_in cs n b p ps here e)

    record StartsAt (bs : List Block) (p : Place) : Type 0 where
      number : ℕ
      block : Block
      others : List Place
      here : slice_get bs number ≡ Some block
      places : block.places ≡ p ∷ others

    first_of : (b : Block) (bs : List Block) (p : Place) (ps : List Place)
        → b.places ≡ ps
        → IsIn p (first_in ps)
        → StartsAt (b ∷ bs) p
    first_of b bs p [] e h = absurd h
    first_of b bs p (q ∷ ps) e (inl same) =
        record { number = 0; block = b; others = ps; here = refl; places = e ∙ ap (λ r. r ∷ ps) (sym same) }
    first_of b bs p (q ∷ ps) e (inr h) = absurd h

    of_start : (bs : List Block) (p : Place) → IsIn p (starts_of bs) → StartsAt bs p
    of_start [] p h = absurd h
    of_start (b ∷ bs) p h = ⊎_elim
        (λ (here : IsIn p (first_in b.places)). first_of b bs p b.places refl here)
        (λ (later : IsIn p (starts_of bs)).
        let r = of_start bs p later in
        record { number = suc r.number; block = r.block; others = r.others; here = r.here; places = r.places })
        (in_either (first_in b.places) (starts_of bs) p h)

    fact_to : (x : OffsetFact) → IsIn x (facts_found l s rows blocks) → IsListedFact l [] x
    fact_to x h =
        let f = fact_found x rows blocks h in
        let t = f.slot in
        let p = f.place in
        let v = range_of s.width t.number in
        let at = place_at p f.row f.begins in
        let known : offset_of s f.row v ≡ Some t.offset =
        ap (λ b. cond b (offset_in s.keys.items f.row (key v)) None) (is_wide_from s.width v refl (omega arith))
        ∙ ap (offset_in s.keys.items f.row) (key_back s.width t.number) ∙ t.known in
        let begins = (flow.starts.each p).0 (start_in blocks (f.begins).number (f.begins).block p (f.begins).others
        (f.begins).here (f.begins).places) in
        let P : OffsetFact → Type 0 = λ y. IsListedFact l [] y in
        subst P (sym t.is)
        (begins, (t.offset, (fact_of l blocks s rows are flow p f.row v t.offset at known, refl)))

    fact_back : (x : OffsetFact) → IsListedFact l [] x → IsIn x (facts_found l s rows blocks)
    fact_back x is =
        let p = x.place in
        let start = of_start blocks p ((flow.starts.each p).1 is.0) in
        let row = are.all start.number (slice_get_within blocks start.number start.block start.here) in
        let begins : Begins rows blocks p row.0 = record {
          number = start.number;
          block = start.block;
          others = start.others;
          here = start.here;
          known = row.1;
          places = start.places;
        } in
        let c = is.1.0 in
        let known = known_of l blocks s rows are flow p row.0 x.range c (place_at p row.0 begins) is.1.1.0 in
        let w = slot_of row.0 x.range c known in
        let same : x ≡ record { place = p; range = range_of s.width (key x.range); offset = signed_offset l c } =
        ap (λ (v : Varnode). let y : OffsetFact = record { place = p; range = v; offset = x.offset } in y)
        (sym (range_back s.width x.range w.0 w.1.0))
        ∙ ap (λ z. let y : OffsetFact = record { place = p; range = range_of s.width (key x.range); offset = z } in y)
        is.1.1.1 in
        fact_there x rows blocks p row.0 begins
        (facts_back l p s.width x s.keys.items row.0 (key x.range) c w.1.1 same)
      where
        slot_of : (r : Row) (v : Varnode) (c : ℕ)
            → offset_of s r v ≡ Some c
            → (v.size ≡ s.width) × ((v.offset < 2 ^ 64) × (offset_in s.keys.items r (key v) ≡ Some c))
        slot_of r v c known = by (is_wide s.width v) refl known
          where
            by : (b : Bool)
                → is_wide s.width v ≡ b
                → cond b (offset_in s.keys.items r (key v)) None ≡ Some c
                → (v.size ≡ s.width) × ((v.offset < 2 ^ 64) × (offset_in s.keys.items r (key v) ≡ Some c))
            by true e h = let w = wide_is s.width v e in (w.0, (w.1, h))
            by false e h = absurd (cc)

    -- The facts where blocks begin, each once and in order.
    pub facts_are : Lists (IsListedFact l []) IsFactBefore (facts_found l s rows blocks)
    facts_are = record {
      each = λ x. (fact_to x, fact_back x);
      in_order = in_order IsFactBefore (facts_found l s rows blocks)
          (blocks_sorted (λ (x : OffsetFact). x.place) IsFactBefore (λ x y b. inl b) (facts_from l s) from_own from_sorted
          rows blocks (places_sorted _ flow.rising));
    }
      where
        from_own : (r : Option Row) (ps : List Place) (x : OffsetFact)
            → IsIn x (facts_from l s r ps)
            → IsIn x.place ps
        from_own None ps x h = absurd h
        from_own (Some row) [] x h = absurd h
        from_own (Some row) (p ∷ ps) x h =
            inl (ap (λ (z : OffsetFact). z.place) (facts_to l p s.width x s.keys.items row up h).is)

        from_sorted : (r : Option Row) (ps : List Place)
            → AreSorted IsBefore ps
            → AreSorted IsFactBefore (facts_from l s r ps)
        from_sorted None ps rising = tt
        from_sorted (Some row) [] rising = tt
        from_sorted (Some row) (p ∷ ps) rising = facts_sorted l p s.width s.keys.items row up
