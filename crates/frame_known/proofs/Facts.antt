-- Rows that are settled say just the facts before each place.
use Rattle.std.proofs.Common.{◌≡◌, ℕ, zero, suc, Bool, true, false, List, [], ◌∷◌, get_or, Option, Some, None, refl, sym, ap, ◌∙◌, subst, inl, inr, ⊎_elim}
use Rattle.std.specs.Prelude.{slice_get}
use Rattle.std.proofs.lemmas.Option.{slice_get-get_or, get_or_from_slice_get}
use Rattle.pcode_model.specs.declared.listing.Place.{Place}
use Rattle.pcode_model.specs.declared.listing.Varnode.{Varnode}
use Rattle.pcode_model.specs.declared.listing.Listing.{Listing}
use Rattle.pcode_model.specs.declared.flow.Block.{Block}
use Rattle.pcode_model.specs.declared.flow.Exit.TheVariants.{Stop}
use Rattle.pcode_model.specs.Places.{standing}
use Rattle.pcode_model.specs.Step.{first_place}
use Rattle.pcode_model.specs.Flow.{Entry, First, IsFlow, IsIn, LeadsTo, Next, NoFault, Reached, RunsBlock, starts_of}
use Rattle.pcode_model.specs.WellFormed.{IsWellFormed}
use Rattle.frame_facts.specs.Facts.{AreSupported, CanHold, Facts, Known, Over}
use Rattle.frame_known.specs.declared.slots.Slots.{Slots}
use Rattle.frame_known.specs.Slots.{AreSlots}
use Rattle.frame_known.specs.Rows.{IsRow, Row, knows, over_row}
use Rattle.frame_known.proofs.Meaning.{can_from, held}
use Rattle.frame_known.specs.declared.known.Known as known
use Rattle.frame_known.specs.Known.{AreKnown, Before, IsFactRow}
use Rattle.frame_known.specs.Entering.{nexts, row_at, waits_at}
use Rattle.frame_known.proofs.Along.{before_in, find_in, found_fine, found_in, one_block}
use Rattle.frame_known.specs.Settling.{IsDone, Nothing_owed, Settled, Settling}
use Rattle.frame_known.proofs.Shaped.{Begins, begins_at, block_reached, starts_at}
use Rattle.frame_known.proofs.Walked.{all_before, leads_on, step_over}

module _
    (l : Listing)
    (read : IsWellFormed l)
    (sound : NoFault l [])
    (s : Slots)
    (slots : AreSlots l s)
    (blocks : List Block)
    (flow : IsFlow l [] blocks)
    (rows : List (Option Row))
    (waits : List Bool)
    (x : Settling l s blocks Nothing_owed rows waits)
    (none : (n : ℕ) → waits_at waits n ≡ false)
  where
    abbrev starts : List Place
    starts = starts_of blocks

    shape : (n : ℕ) (b : Block) → slice_get blocks n ≡ Some b → Begins l starts blocks n b
    shape n b e = begins_at l starts blocks n b flow.run e

    runs : (n : ℕ) (b : Block) → slice_get blocks n ≡ Some b → RunsBlock l [] starts b.places b.exit
    runs n b e =
        let h = shape n b e in subst (λ ps. RunsBlock l [] starts ps b.exit) (sym h.places) h.runs

    reached_in : (n : ℕ) (b : Block) → slice_get blocks n ≡ Some b → (p : Place) → IsIn p b.places → Reached l [] p
    reached_in n b e p is = block_reached l s blocks flow n b p e is

    is_done : (n : ℕ) (b : Block) (row : Row) (m : ℕ)
        → slice_get blocks n ≡ Some b
        → row_at rows n ≡ Some row
        → IsIn m (nexts b.exit)
        → IsDone l s blocks rows row b m
    is_done n b row m e f is = ⊎_elim (λ a. a) (λ o. absurd o) (x.done n b row m e f (none n) is)

    get_row : (n : ℕ) (row : Row) → row_at rows n ≡ Some row → slice_get rows n ≡ Some (Some row)
    get_row n row e = by (slice_get rows n) refl where
      by : (o : Option (Option Row)) → slice_get rows n ≡ o → slice_get rows n ≡ Some (Some row)
      by None f = absurd (let g = missed rows n f in let bad : None ≡ Some row = sym g ∙ e in cc)
        where
          missed : (rs : List (Option Row)) (k : ℕ) → slice_get rs k ≡ None → row_at rs k ≡ None
          missed [] k h = refl
          missed (r ∷ rs) zero h = absurd (cc)
          missed (r ∷ rs) (suc k) h = missed rs k h
      by (Some r) f =
          let g : row_at rows n ≡ r = get_or_from_slice_get rows n r None f in
          f ∙ ap Some (sym g ∙ e)

    get_at : (n : ℕ) (row : Row) → slice_get rows n ≡ Some (Some row) → row_at rows n ≡ Some row
    get_at n row e = get_or_from_slice_get rows n (Some row) None e

    -- a place that is reached, in its block, with the row before it
    pub record Stood (p : Place) : Type 0 where
      pub number : ℕ
      pub block : Block
      pub is : slice_get blocks number ≡ Some block
      pub row : Row
      pub has : row_at rows number ≡ Some row
      pub before : Row
      pub place : Before l s row block.places p before

    -- the block that begins at a start, with its row
    stood_at_start : (n : ℕ) (p : Place) (row : Row)
        → slice_get starts n ≡ Some p
        → row_at rows n ≡ Some row
        → Stood p
    stood_at_start n p row get has =
        let b = starts_at l starts blocks n p flow.run get in
        let h = shape n b.0 b.1 in
        let same : p ≡ h.first = let e : Some p ≡ Some h.first = sym get ∙ h.start in cc in
        record {
          number = n;
          block = b.0;
          is = b.1;
          row = row;
          has = has;
          before = row;
          place = subst (λ ps. Before l s row ps p row) (sym h.places) (inl (same, refl));
        }

    number_of_start : (p : Place) → IsIn p starts → (n : ℕ) × (slice_get starts n ≡ Some p)
    number_of_start p is = by starts is where
      by : (ps : List Place) → IsIn p ps → (n : ℕ) × (slice_get ps n ≡ Some p)
      by [] h = absurd h
      by (q ∷ ps) (inl e) = (0, ap Some (sym e))
      by (q ∷ ps) (inr h) = let r = by ps h in (suc r.0, r.1)

    pub stood : (p : Place) → Reached l [] p → Stood p
    stood p First =
        let n = number_of_start p ((flow.starts.each p).1 Entry) in
        let row = x.begun n.0 n.1 in
        stood_at_start n.0 p row.0 n.1 row.1
    stood p (Next q p' r h) =
        let b = stood q r in
        ⊎_elim
        (λ a. record {
          number = b.number;
          block = b.block;
          is = b.is;
          row = b.row;
          has = b.has;
          before = over_row l s b.before (standing l q);
          place = a;
        })
        (λ a.
        let d = is_done b.number b.block b.row a.0.0 b.is b.has a.0.1.0 in
        stood_at_start a.0.0 p d.0 a.0.1.1 d.1.0)
        (leads_on l read sound s slots starts b.block.exit b.block.places b.row q b.before p
        (reached_in b.number b.block b.is) (runs b.number b.block b.is) b.place h)

    -- each block has a row
    pub all_rows : (n : ℕ) (b : Block) → slice_get blocks n ≡ Some b → (row : Row) × (row_at rows n ≡ Some row)
    all_rows n b e =
        let h = shape n b e in
        let here : IsIn h.first b.places = subst (λ ps. IsIn h.first ps) (sym h.places) (inl refl) in
        let d = stood h.first (reached_in n b e h.first here) in
        let same : d.number ≡ n =
        one_block l s blocks d.number n d.block b h.first flow.rising d.is e
        (before_in l s d.block.places d.row h.first d.before d.place) here in
        (d.row, ap (row_at rows) (sym same) ∙ d.has)

    -- ---- the facts that the rows say

    abbrev known_at : Option Row → Known
    known_at None v c = false
    known_at (Some r) v c = knows s r v c

    abbrev said : Facts
    said p = known_at (find_in l s blocks rows p)

    fine_rows : (n : ℕ) (row : Row) → slice_get rows n ≡ Some (Some row) → IsRow s row
    fine_rows n row e = x.fine n row (get_at n row e)

    found_at : (p : Place) (d : Stood p) → find_in l s blocks rows p ≡ Some d.before
    found_at p d =
        found_in l s blocks rows d.number d.block d.row p d.before flow.rising d.is (get_row d.number d.row d.has) d.place

    fine_at : (p : Place) (d : Stood p) → IsRow s d.before
    fine_at p d = found_fine l s slots blocks rows p d.before fine_rows (found_at p d)

    said_is : (p : Place) (d : Stood p) (v : Varnode) (c : ℕ) → said p v c ≡ true → knows s d.before v c ≡ true
    said_is p d v c h = sym (ap (λ o. known_at o v c) (found_at p d)) ∙ h

    said_can : (p : Place) (v : Varnode) (c : ℕ) → said p v c ≡ true → CanHold l v c
    said_can p v c h = by (find_in l s blocks rows p) refl h where
      by : (o : Option Row) → find_in l s blocks rows p ≡ o → known_at o v c ≡ true → CanHold l v c
      by None e h = absurd (cc)
      by (Some r) e h =
          let fine = found_fine l s slots blocks rows p r fine_rows e in
          can_from l read s slots r fine r fine v c (held s r v c h)

    said_edge : (p q : Place) (v : Varnode) (c : ℕ)
        → Reached l [] p
        → LeadsTo l [] p q
        → said q v c ≡ true
        → Over l (said p) (standing l p) v c
    unfolding is_done stood_at_start
    said_edge p q v c r h is =
        let d = stood p r in
        let fine = fine_at p d in
        let next : knows s (over_row l s d.before (standing l p)) v c ≡ true = next_known d in
        subst (λ o. Over l (known_at o) (standing l p) v c) (sym (found_at p d))
        (step_over l read sound s slots starts d.block.exit d.before p v c fine r next)
      where
        next_known : (d : Stood p) → knows s (over_row l s d.before (standing l p)) v c ≡ true
        next_known d =
            ⊎_elim
            (λ a.
            let there : Stood q = record {
              number = d.number;
              block = d.block;
              is = d.is;
              row = d.row;
              has = d.has;
              before = over_row l s d.before (standing l p);
              place = a;
            } in
            said_is q there v c is)
            (λ a.
            let y = is_done d.number d.block d.row a.0.0 d.is d.has a.0.1.0 in
            let there = stood_at_start a.0.0 q y.0 a.0.1.1 y.1.0 in
            let known : knows s y.0 v c ≡ true = said_is q there v c is in
            subst (λ z. knows s z v c ≡ true) a.1 (y.1.1 v c known))
            (leads_on l read sound s slots starts d.block.exit d.block.places d.row p d.before q
            (reached_in d.number d.block d.is) (runs d.number d.block d.is) d.place h)

    said_first : (v : Varnode) (c : ℕ) → said (first_place l) v c ≡ true → (l.stack ≡ Some v) × (c ≡ 0)
    unfolding stood_at_start
    said_first v c h =
        let n = number_of_start (first_place l) ((flow.starts.each (first_place l)).1 Entry) in
        let row = x.begun n.0 n.1 in
        let there = stood_at_start n.0 (first_place l) row.0 n.1 row.1 in
        x.start n.0 row.0 v c n.1 row.1 (said_is (first_place l) there v c h)

    supported : AreSupported l [] said
    supported = record { can = said_can; first = said_first; edge = said_edge }

    -- a row knows just the facts before a place
    pub fact_row : (p : Place) (d : Stood p) → IsFactRow l s p d.before
    fact_row p d v c = (
      λ h.
          let b = shape d.number d.block d.is in
          let reached : (y : Place) → IsIn y (b.first ∷ b.others) → Reached l [] y =
          λ y is. reached_in d.number d.block d.is y (subst (λ ps. IsIn y ps) (sym b.places) is) in
          all_before l read sound s slots starts d.block.exit h.0 b.first b.others d.row h.1.1
          (x.fine d.number d.row d.has) reached b.runs (x.all h.0 d.number b.first d.row h.1.1 b.start d.has) p d.before
          (subst (λ ps. Before l s d.row ps p d.before) b.places d.place) v c h.1.0,
      λ h. (said, (ap (λ o. known_at o v c) (found_at p d) ∙ h, supported)),
    )

pub are_known : (l : Listing) (blocks : List Block) (k : known.Known)
    → IsWellFormed l
    → NoFault l []
    → AreSlots l k.slots
    → IsFlow l [] blocks
    → Settled l k.slots blocks k.rows.items
    → AreKnown l blocks k
are_known l blocks k read sound slots flow settled = record {
  slots = slots;
  long = settled.settling.long;
  all = λ n lt.
      let b = slice_get-get_or blocks n nothing lt in
      let r =
      all_rows l read sound k.slots slots blocks flow k.rows.items settled.waits settled.settling settled.none n
      (get_or blocks n nothing) b in
      (r.0, get_row l read sound k.slots slots blocks flow k.rows.items settled.waits settled.settling settled.none n r.0 r.1);
  each = λ n row e. fine_rows l read sound k.slots slots blocks flow k.rows.items settled.waits settled.settling settled.none n row e;
  facts = λ n b row p r is has before.
      fact_row l read sound k.slots slots blocks flow k.rows.items settled.waits settled.settling settled.none p
      (record {
        number = n;
        block = b;
        is = is;
        row = row;
        has = get_at l read sound k.slots slots blocks flow k.rows.items settled.waits settled.settling settled.none n row has;
        before = r;
        place = before;
      });
}
  where
    nothing : Block
    nothing = record { places = []; exit = Stop }
