-- Passing blocks, from the entry until none waits.
use Rattle.std.proofs.Common.{◌≡◌, ◌≢◌, ℕ, suc, ◌+◌, ◌^◌, ◌<◌, ◌≤◌, Bool, true, false, List, [], ◌∷◌, length, map, replicate, set, Option, Some, None, refl, sym, ap, ◌∙◌, subst, inl, inr, ⊎_elim, arith}
use Rattle.std.specs.Prelude.{slice_get, IfSome, cond}
use Rattle.std.proofs.Math.ListN.{length-set}
use Rattle.std.proofs.lemmas.Bool.{cases_eq, cases_lt}
use Rattle.std.proofs.lemmas.List.{get_or-set_same, get_or-set_other, get_or-replicate, get_or_past, length-map, length-replicate}
use Rattle.std.proofs.lemmas.Option.{slice_get_within}
use Rattle.pcode_model.specs.declared.listing.Place.{Place}
use Rattle.pcode_model.specs.declared.listing.Varnode.{Varnode}
use Rattle.pcode_model.specs.declared.listing.Listing.{Listing}
use Rattle.pcode_model.specs.declared.flow.Block.{Block}
use Rattle.pcode_model.specs.declared.flow.Exit.{Exit}
use Rattle.pcode_model.specs.Step.{first_place}
use Rattle.pcode_model.specs.Flow.{Entry, IsFlow, IsIn, Leaves, NoFault, Reached, RunsBlock, starts_of}
use Rattle.pcode_model.specs.WellFormed.{IsWellFormed}
use Rattle.frame_facts.specs.Facts.{offsets}
use Rattle.frame_known.specs.declared.slots.Slots.{Slots}
use Rattle.frame_known.specs.Slots.{AreSlots, key}
use Rattle.frame_known.specs.Rows.{AreBelow, IsBelow, IsRow, Row, is_at, knows}
use Rattle.frame_known.proofs.Entries.{offset_map}
use Rattle.frame_known.proofs.Meaning.{at_is, held, is_at_from, knows_from}
use Rattle.frame_known.proofs.Ranges.{holds_low, key_same, stack_holds}
use Rattle.frame_known.specs.Meeting.{along, first_entries, first_entry}
use Rattle.frame_known.specs.Entering.{AreInside, AreLong, EnteredAll, IsLong, nexts, row_at, waiting, waits_at, weights}
use Rattle.frame_known.specs.Passing.{Passed, PassedFrom, begins_in, end_in}
use Rattle.frame_known.specs.Settling.{KnowsNoLess, Nothing_owed, Settling}
use Rattle.frame_known.proofs.Along.{along_fine, is_place_from, one_block, place_is}
use Rattle.frame_known.proofs.Common.{waiting_off}
use Rattle.frame_known.proofs.Settled.{settling_all, taken}
use Rattle.frame_known.proofs.Shaped.{begins_at, block_reached, starts_at}
use Rattle.frame_known.proofs.Walked.{all_behind}
use Rattle.frame_known.proofs.Ways.{next_start}

-- ---- the entry

module _ (l : Listing) (blocks : List Block) (flow : IsFlow l [] blocks) where
  pub entry_at : (n : ℕ) (b : Block) (p : Place)
      → slice_get blocks n ≡ Some b
      → begins_in b.places p ≡ true
      → slice_get (starts_of blocks) n ≡ Some p
  entry_at n b p e h =
      let x = begins_at l (starts_of blocks) blocks n b flow.run e in
      let same : x.first ≡ p = place_is x.first p (sym (ap (λ ps. begins_in ps p) x.places) ∙ h) in
      x.start ∙ ap Some same

  pub start_number : (p : Place) → IsIn p (starts_of blocks) → (n : ℕ) × (slice_get (starts_of blocks) n ≡ Some p)
  start_number p is = by (starts_of blocks) is where
    by : (ps : List Place) → IsIn p ps → (n : ℕ) × (slice_get ps n ≡ Some p)
    by [] h = absurd h
    by (q ∷ ps) (inl e) = (0, ap Some (sym e))
    by (q ∷ ps) (inr h) = let r = by ps h in (suc r.0, r.1)

  pub number_inside : (n : ℕ) (p : Place) → slice_get (starts_of blocks) n ≡ Some p → n < length blocks
  number_inside n p e =
      let b = starts_at l (starts_of blocks) blocks n p flow.run e in slice_get_within blocks n b.0 b.1

  -- some block begins where the function does
  pub entry_some : ((n : ℕ) (b : Block) → slice_get blocks n ≡ Some b → begins_in b.places (first_place l) ≡ false) → ⊥
  entry_some none =
      let n = start_number (first_place l) ((flow.starts.each (first_place l)).1 Entry) in
      let b = starts_at l (starts_of blocks) blocks n.0 (first_place l) flow.run n.1 in
      let x = begins_at l (starts_of blocks) blocks n.0 b.0 flow.run b.1 in
      let same : first_place l ≡ x.first =
      let f : Some (first_place l) ≡ Some x.first = sym n.1 ∙ x.start in cc in
      let t : begins_in b.0.places (first_place l) ≡ true =
      ap (λ ps. begins_in ps (first_place l)) x.places ∙ is_place_from x.first (first_place l) same in
      let bad : true ≡ false = sym t ∙ none n.0 b.0 b.1 in
      cc

  leaves_of : (ps : List Place) (e : Exit)
      → RunsBlock l [] (starts_of blocks) ps e
      → (p : Place) × Leaves l [] (starts_of blocks) p e
  leaves_of [] e h = absurd h
  leaves_of (p ∷ []) e h = (p, h)
  leaves_of (p ∷ q ∷ ps) e h = leaves_of (q ∷ ps) e h.1

  -- the blocks behind a block are blocks
  pub next_inside : (n : ℕ) (b : Block) (m : ℕ)
      → slice_get blocks n ≡ Some b
      → NoFault l []
      → IsIn m (nexts b.exit)
      → m < length blocks
  next_inside n b m e sound is =
      let x = begins_at l (starts_of blocks) blocks n b flow.run e in
      let p = leaves_of (x.first ∷ x.others) b.exit x.runs in
      let q = next_start l sound (starts_of blocks) p.0 b.exit m p.1 is in
      let d = starts_at l (starts_of blocks) blocks m q.0 flow.run q.1 in
      slice_get_within blocks m d.0 d.1

  inside_all : (k : ℕ) (ms : List ℕ) → ((m : ℕ) → IsIn m ms → m < k) → AreInside k ms
  inside_all k [] h = tt
  inside_all k (m ∷ ms) h = (h m (inl refl), inside_all k ms (λ j i. h j (inr i)))

  pub nexts_inside : (k n : ℕ) (b : Block)
      → k ≡ length blocks
      → slice_get blocks n ≡ Some b
      → NoFault l []
      → AreInside k (nexts b.exit)
  nexts_inside k n b same e sound =
      inside_all k (nexts b.exit) (λ m is. let h = next_inside n b m e sound is in omega (arith, h, same))

-- ---- what is known at the entry

module _ (l : Listing) (read : IsWellFormed l) (s : Slots) (slots : AreSlots l s) where
  first_below : (ks : List ℕ) → AreBelow s.offsets (map (first_entry l s) ks)
  first_below [] = tt
  first_below (k ∷ ks) = (by (is_at s.width l.stack k), first_below ks) where
    use_some : 0 < s.offsets
    use_some = slots.some

    by : (b : Bool) → IsBelow s.offsets (cond b (Some 0) None)
    by true = use_some
    by false = tt

  pub first_fine : IsRow s (first_entries l s)
  first_fine = record { long = length-map s.keys.items (first_entry l s); below = first_below s.keys.items }

  pub first_is : (v : Varnode) (c : ℕ) → knows s (first_entries l s) v c ≡ true → (l.stack ≡ Some v) × (c ≡ 0)
  first_is v c h =
      let x = held s (first_entries l s) v c h in
      by (is_at s.width l.stack (key v)) refl x.wide x.low
      (sym (offset_map (first_entry l s) s.keys.items (key v) x.has) ∙ x.entry)
    where
      by : (b : Bool)
          → is_at s.width l.stack (key v) ≡ b
          → v.size ≡ s.width
          → v.offset < 2 ^ 64
          → cond b (Some 0) None ≡ Some c
          → (l.stack ≡ Some v) × (c ≡ 0)
      by true e wide low f =
          let a = at_is s.width l.stack (key v) e in
          let same : a.0 ≡ v = key_same a.0 v (a.1.1.0 ∙ sym wide) a.1.1.1.0 low a.1.1.1.1 in
          (a.1.0 ∙ ap Some same, let g : 0 ≡ c = cc in sym g)
      by false e wide low f = absurd (cc)

  pub first_knows : (v : Varnode) (c : ℕ) → l.stack ≡ Some v → c ≡ 0 → knows s (first_entries l s) v c ≡ true
  first_knows v c is zero_is =
      let positive : c < offsets l = subst (λ m. c < m) slots.count (let p = slots.some in omega (arith, zero_is, p)) in
      let low = holds_low l read v c (stack_holds l read v c is positive) in
      let slot = slots.stack v is in
      knows_from s (first_entries l s) v c (record {
        wide = slot.0;
        low = low;
        has = slot.1;
        entry =
            offset_map (first_entry l s) s.keys.items (key v) slot.1
            ∙ ap (λ b. cond b (Some 0) None) (is_at_from s.width l.stack v is slot.0 low)
            ∙ ap Some (sym zero_is);
      })

  -- ---- as the passing begins

  module _ (blocks : List Block) (flow : IsFlow l [] blocks) (n : ℕ)
      (entry : slice_get (starts_of blocks) n ≡ Some (first_place l)) where
    abbrev first_rows : List (Option Row)
    first_rows = set (replicate (length blocks) None) n (Some (first_entries l s))

    abbrev first_waits : List Bool
    first_waits = set (replicate (length blocks) false) n true

    entry_block : (b : Block) × (slice_get blocks n ≡ Some b)
    entry_block = starts_at l (starts_of blocks) blocks n (first_place l) flow.run entry

    inside : n < length blocks
    inside = slice_get_within blocks n entry_block.0 entry_block.1

    nothing : (k : ℕ) → row_at (replicate (length blocks) None) k ≡ None
    nothing k =
        ⊎_elim (λ (lt : k < length blocks). get_or-replicate (length blocks) k None None lt)
        (λ (le : length blocks ≤ k).
        get_or_past (replicate (length blocks) None) k None (let e = length-replicate {A = Option Row} (length blocks) None in
        omega (arith, e, le)))
        (cases_lt k (length blocks))

    -- only the row at the entry is made
    only : (k : ℕ) (row : Row) → row_at first_rows k ≡ Some row → (k ≡ n) × (row ≡ first_entries l s)
    only k row e =
        ⊎_elim
        (λ (same : k ≡ n).
        let f : row_at first_rows n ≡ Some (first_entries l s) =
        get_or-set_same (replicate (length blocks) None) n (Some (first_entries l s)) None
        (let g = length-replicate {A = Option Row} (length blocks) None in let i = inside in omega (arith, g, i)) in
        (same, let h : Some row ≡ Some (first_entries l s) = sym e ∙ ap (row_at first_rows) same ∙ f in cc))
        (λ (ne : k ≢ n).
        absurd (let f : None ≡ Some row =
        sym (nothing k)
        ∙ sym (get_or-set_other (replicate (length blocks) None) n k (Some (first_entries l s)) None ne) ∙ e in cc))
        (cases_eq k n)

    has_first : row_at first_rows n ≡ Some (first_entries l s)
    has_first =
        get_or-set_same (replicate (length blocks) None) n (Some (first_entries l s)) None
        (let g = length-replicate {A = Option Row} (length blocks) None in let i = inside in omega (arith, g, i))

    waits_first : waits_at first_waits n ≡ true
    waits_first =
        get_or-set_same (replicate (length blocks) false) n true false
        (let g = length-replicate (length blocks) false in let i = inside in omega (arith, g, i))

    -- the number of the start of a place is one
    same_start : (k : ℕ) → slice_get (starts_of blocks) k ≡ Some (first_place l) → k ≡ n
    same_start k e =
        let b = starts_at l (starts_of blocks) blocks k (first_place l) flow.run e in
        let x = begins_at l (starts_of blocks) blocks k b.0 flow.run b.1 in
        let y = begins_at l (starts_of blocks) blocks n entry_block.0 flow.run entry_block.1 in
        let one : first_place l ≡ x.first =
        let f : Some (first_place l) ≡ Some x.first = sym e ∙ x.start in cc in
        let two : first_place l ≡ y.first =
        let f : Some (first_place l) ≡ Some y.first = sym entry ∙ y.start in cc in
        one_block l s blocks k n b.0 entry_block.0 (first_place l) flow.rising b.1 entry_block.1
        (subst (λ ps. IsIn (first_place l) ps) (sym x.places) (inl one))
        (subst (λ ps. IsIn (first_place l) ps) (sym y.places) (inl two))

    pub settling_first : Settling l s blocks Nothing_owed first_rows first_waits
    settling_first = record {
      long = length-set (replicate (length blocks) None) n (Some (first_entries l s)) ∙ length-replicate (length blocks) None;
      long_waits = length-set (replicate (length blocks) false) n true ∙ length-replicate (length blocks) false;
      fine = λ k row e. let o = only k row e in subst (λ r. IsRow s r) (sym o.1) first_fine;
      start = λ k row v c is e h. let o = only k row e in first_is v c (subst (λ r. knows s r v c ≡ true) o.1 h);
      begun = λ k is. (first_entries l s, ap (row_at first_rows) (same_start k is) ∙ has_first);
      all = λ f k p row sup is e v c h.
          let o = only k row e in
          let same : p ≡ first_place l =
          let g : Some p ≡ Some (first_place l) = sym is ∙ ap (slice_get (starts_of blocks)) o.0 ∙ entry in cc in
          let first = sup.first v c (subst (λ q. f q v c ≡ true) same h) in
          subst (λ r. knows s r v c ≡ true) (sym o.1) (first_knows v c first.0 first.1);
      done = λ k b row m is e h next.
          let o = only k row e in
          absurd (let bad : true ≡ false = sym waits_first ∙ ap (waits_at first_waits) (sym o.0) ∙ h in cc);
      waited = λ k h.
          ⊎_elim
          (λ (same : k ≡ n). (first_entries l s, ap (row_at first_rows) same ∙ has_first))
          (λ (ne : k ≢ n).
          absurd (let f : waits_at first_waits k ≡ waits_at (replicate (length blocks) false) k =
          get_or-set_other (replicate (length blocks) false) n k true false ne in
          let g : waits_at (replicate (length blocks) false) k ≡ false = unmarked k in
          let bad : true ≡ false = sym h ∙ f ∙ g in cc))
          (cases_eq k n);
    }
      where
        unmarked : (k : ℕ) → waits_at (replicate (length blocks) false) k ≡ false
        unmarked k =
            ⊎_elim (λ (lt : k < length blocks). get_or-replicate (length blocks) k false false lt)
            (λ (le : length blocks ≤ k).
            get_or_past (replicate (length blocks) false) k false
            (let e = length-replicate (length blocks) false in omega (arith, e, le)))
            (cases_lt k (length blocks))

  -- ---- a block that is passed

  pub end_fine : (o : Option Row) (ps : List Place) (out : Row)
      → IfSome o (IsRow s)
      → end_in l s o ps ≡ Some out
      → IsRow s out
  end_fine None ps out h e = absurd (cc)
  end_fine (Some row) ps out h e =
      let same : along l s row ps ≡ out = cc in
      subst (λ r. IsRow s r) same (along_fine l s slots ps row h)

  pub row_fine : (rows : List (Option Row)) (n : ℕ)
      → ((k : ℕ) (row : Row) → row_at rows k ≡ Some row → IsRow s row)
      → IfSome (row_at rows n) (IsRow s)
  row_fine rows n fine = by (row_at rows n) refl where
    by : (o : Option Row) → row_at rows n ≡ o → IfSome o (IsRow s)
    by None e = tt
    by (Some row) e = fine n row e

  pub rows_long : (rows : List (Option Row))
      → ((k : ℕ) (row : Row) → row_at rows k ≡ Some row → IsRow s row)
      → AreLong (length s.keys.items) rows
  rows_long [] fine = tt
  rows_long (o ∷ rows) fine = (by o refl, rows_long rows (λ k row e. fine (suc k) row e)) where
    by : (x : Option Row) → o ≡ x → IsLong (length s.keys.items) x
    by None e = tt
    by (Some row) e = (fine 0 row e).long

  pub settling_passed : (blocks : List Block) (n : ℕ) (b : Block) (rows : List (Option Row)) (waits : List Bool)
      (rows' : List (Option Row)) (waits' : List Bool)
      → IsFlow l [] blocks
      → NoFault l []
      → Settling l s blocks Nothing_owed rows waits
      → slice_get blocks n ≡ Some b
      → waits_at waits n ≡ true
      → Passed l s b n rows (set waits n false) rows' waits'
      → Settling l s blocks Nothing_owed rows' waits'
      × (weights (length s.keys.items) rows' + waiting waits' < weights (length s.keys.items) rows + waiting waits)
  settling_passed blocks n b rows waits rows' waits' flow sound x is wait passed =
      let row = x.waited n wait in
      let fine = x.fine n row.0 row.1 in
      let out = along l s row.0 b.places in
      let good = along_fine l s slots b.places row.0 fine in
      let begin = begins_at l (starts_of blocks) blocks n b flow.run is in
      let reached : (y : Place) → IsIn y (begin.first ∷ begin.others) → Reached l [] y =
      λ y i. block_reached l s blocks flow n b y is (subst (λ ps. IsIn y ps) (sym begin.places) i) in
      let all : EnteredAll (length s.keys.items) out rows (set waits n false) (nexts b.exit) rows' waits' =
      subst (λ k. EnteredAll k out rows (set waits n false) (nexts b.exit) rows' waits') good.long
      (subst (λ o. PassedFrom (end_in l s o b.places) b.exit rows (set waits n false) rows' waits') row.1 passed) in
      let rest =
      settling_all l s blocks (length s.keys.items) n b row.0 out is refl good (nexts b.exit) rows (set waits n false)
      rows' waits' (taken l s blocks n b rows waits x is (slice_get_within blocks n b is)) (λ h. row.1)
      (λ m i. next_inside l blocks flow n b m is sound i)
      (λ m i f p sup get.
      subst (λ ps. KnowsNoLess (f p) (knows s (along l s row.0 ps))) (sym begin.places)
      (all_behind l read sound s slots (starts_of blocks) b.exit f begin.first begin.others row.0 m p sup fine reached
      begin.runs (x.all f n begin.first row.0 sup begin.start row.1) i get))
      all in
      (rest.0, omega (arith, rest.1, waiting_off waits n wait))
