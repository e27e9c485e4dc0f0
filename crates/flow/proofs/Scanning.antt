-- The blocks that are made so far, place by place.
use Rattle.std.proofs.Common.{◌≡◌, ℕ, suc, ◌+◌, ◌<◌, Bool, true, false, List, [], ◌∷◌, ◌++◌, length, refl, sym, ap, ◌∙◌, subst, ◌⊎◌, inl, inr, ⊎_elim, arith, Option, Some, None, append_assoc}
use Rattle.std.specs.List.{slice_index_or}
use Rattle.std.proofs.lemmas.Bool.{false≢true}
use Rattle.pcode_model.specs.declared.listing.Place.{Place}
use Rattle.pcode_model.specs.declared.listing.Listing.{Listing}
use Rattle.pcode_model.specs.declared.flow.Turn.{Turn}
use Rattle.pcode_model.specs.declared.flow.Exit.{Exit}
use Rattle.pcode_model.specs.declared.flow.Exit.TheVariants.{Return, Jump, Test, Switch, Stop}
use Rattle.pcode_model.specs.declared.flow.Block.{Block}
use Rattle.pcode_model.specs.Places.{standing}
use Rattle.pcode_model.specs.Flow.{IsIn, Rising, AreApart, stands, next_in, Reached, Next, AreStarts, JumpsTo, LeavesBy, Leaves, GoesOnTo, RunsBlock, AllRun, first_in, starts_of, places_of, IsFlow}
use Rattle.flow.specs.Slots.{at, Marked, ArePlaces, MarksReached, MarksStarts, picked, one_if}
use Rattle.flow.specs.Blocks.{Passed, ExitOf}
use Rattle.flow.proofs.Order.{at_in, in_at, in_of_slice}
use Rattle.flow.proofs.Marking.{picked_in, in_picked, rising_picked, are_starts}
use Rattle.flow.proofs.Reaching.{at_once}
use Rattle.flow.proofs.Adjacent.{adjacent, before_it, lead_next, next_lead, some_same, starts_reached}

append_nil : {A : Type 0} (xs : List A) → xs ++ [] ≡ xs
append_nil [] = refl
append_nil (x ∷ xs) = ap (λ ys. x ∷ ys) (append_nil xs)

not_nil : (xs : List Place) (p : Place) → xs ++ p ∷ [] ≡ [] → ⊥
not_nil [] p e = cc
not_nil (x ∷ xs) p e = cc

-- ---- places that follow one another, up to a place that comes next

abbrev pub RunsUpTo : Listing → List Place → List Place → Place → Type 0
RunsUpTo l starts [] q = ⊥
RunsUpTo l starts (p ∷ []) q = GoesOnTo l starts p q
RunsUpTo l starts (p ∷ r ∷ rest) q = GoesOnTo l starts p r × RunsUpTo l starts (r ∷ rest) q

module _ (l : Listing) (starts : List Place) where
  run_inside : (ps : List Place) (q : Place) → RunsUpTo l starts ps q → IsIn q starts → ⊥
  run_inside [] q h i = h
  run_inside (p ∷ []) q h i = h.inside i
  run_inside (p ∷ r ∷ rest) q h i = run_inside (r ∷ rest) q h.1 i

  run_more : (ps : List Place) (q r : Place)
      → RunsUpTo l starts ps q
      → GoesOnTo l starts q r
      → RunsUpTo l starts (ps ++ q ∷ []) r
  run_more [] q r h g = absurd h
  run_more (p ∷ []) q r h g = (h, g)
  run_more (p ∷ p' ∷ rest) q r h g = (h.0, run_more (p' ∷ rest) q r h.1 g)

  run_close : (ps : List Place) (q : Place) (e : Exit)
      → RunsUpTo l starts ps q
      → Leaves l [] starts q e
      → RunsBlock l [] starts (ps ++ q ∷ []) e
  run_close [] q e h x = absurd h
  run_close (p ∷ []) q e h x = (h, x)
  run_close (p ∷ p' ∷ rest) q e h x = (h.0, run_close (p' ∷ rest) q e h.1 x)

  first_stays : (ps : List Place) (q : Place)
      → RunsUpTo l starts ps q
      → first_in (ps ++ q ∷ []) ≡ first_in ps
  first_stays [] q h = absurd h
  first_stays (p ∷ ps) q h = refl

  -- ---- one block more

  all_more : (bs : List Block) (b : Block)
      → AllRun l [] starts bs
      → RunsBlock l [] starts b.places b.exit
      → AllRun l [] starts (bs ++ b ∷ [])
  all_more [] b h r = (r, tt)
  all_more (x ∷ bs) b h r = (h.0, all_more bs b h.1 r)

starts_more : (bs : List Block) (b : Block) → starts_of (bs ++ b ∷ []) ≡ starts_of bs ++ first_in b.places
starts_more [] b = append_nil (first_in b.places)
starts_more (x ∷ bs) b =
    ap (λ ys. first_in x.places ++ ys) (starts_more bs b)
    ∙ sym (append_assoc (first_in x.places) (starts_of bs) (first_in b.places))

places_more : (bs : List Block) (b : Block) → places_of (bs ++ b ∷ []) ≡ places_of bs ++ b.places
places_more [] b = append_nil b.places
places_more (x ∷ bs) b =
    ap (λ ys. x.places ++ ys) (places_more bs b) ∙ sym (append_assoc x.places (places_of bs) b.places)

-- ---- the loop over the slots

module _ (l : Listing) (ps : List Place) (reached begins : List Bool) (starts : List Place) where
  pub record Scanned (blocks : List Block) (pending : List Place) (s : ℕ) : Type 0 where
    pub run : AllRun l [] starts blocks
    pub opened : (pending ≡ []) ⊎ ((s < length ps) × (Marked reached s × RunsUpTo l starts pending (at ps s)))
    pub carried : (k : ℕ) → suc k ≡ s → Marked reached k → GoesOnTo l starts (at ps k) (at ps s) → pending ≡ [] → ⊥
    pub starts_are : starts_of blocks ++ first_in pending ≡ picked begins ps s
    pub places_are : places_of blocks ++ pending ≡ picked reached ps s

  pub scanned_first : Scanned [] [] 0
  scanned_first = record {
    run = tt;
    opened = inl refl;
    carried = λ k e m g n. absurd (omega arith);
    starts_are = refl;
    places_are = refl;
  }

  -- what holds of all places of the listing at hand
  pub record Known : Type 0 where
    pub apart : AreApart l.code
    pub places : ArePlaces l ps
    pub reaches : MarksReached l [] ps reached
    pub begin : MarksStarts l [] ps begins
    pub same : starts ≡ picked begins ps (length ps)

  stands_at : Known
      → (p : Place)
      → Reached l [] p
      → stands l p ≡ true
  stands_at k p r = (k.places.each p).0 (k.reaches.all p r)

  in_starts : Known
      → (s : ℕ)
      → s < length ps
      → Marked begins s
      → IsIn (at ps s) starts
  in_starts k s lt m =
      let P : List Place → Type 0 = λ x. IsIn (at ps s) x in
      subst P (sym k.same) (in_picked begins ps (length ps) s lt m)

-- the next slot of a place that goes on is reached
next_reached : (l : Listing) (ps : List Place) (reached begins : List Bool) (starts : List Place)
    → Known l ps reached begins starts
    → (s t : ℕ)
    → s < length ps
    → t < length ps
    → Marked reached s
    → GoesOnTo l starts (at ps s) (at ps t)
    → Marked reached t
next_reached l ps reached begins starts k s t s_in t_in m g =
    let r : Reached l [] (at ps s) = (k.reaches.each s s_in).0 m in
    let h =
    next_lead l (at ps s) (at ps t) (stands_at l ps reached begins starts k (at ps s) r) g.goes_on g.next
    ((k.places.each (at ps t)).0 (at_in ps t t_in)) in
    (k.reaches.each t t_in).1 (Next (at ps s) (at ps t) r h)

-- a place without a pending block before it begins one
begins_here : (l : Listing) (ps : List Place) (reached begins : List Bool) (starts : List Place)
    (blocks : List Block) (pending : List Place) (s : ℕ)
    → Known l ps reached begins starts
    → Scanned l ps reached begins starts blocks pending s
    → s < length ps
    → Marked reached s
    → pending ≡ []
    → (b : Bool)
    → slice_index_or begins s false ≡ b
    → slice_index_or begins s false ≡ true
begins_here l ps reached begins starts blocks pending s k sc lt m none true e = e
begins_here l ps reached begins starts blocks pending s k sc lt m none false e =
    let r : Reached l [] (at ps s) = (k.reaches.each s lt).0 m in
    let b =
    before_it l (at ps s) (stands_at l ps reached begins starts k) r
    (λ x. false≢true (sym e ∙ (k.begin.each s lt).1 x)) in
    let x = in_at b.from ps (k.reaches.all b.from b.reached) in
    let next =
    lead_next l b.from (at ps s) (stands_at l ps reached begins starts k b.from b.reached) b.goes_on b.leads in
    let P : Place → Type 0 = λ p. GoesOnTo l starts p (at ps s) in
    let Q : Place → Type 0 = λ p. Reached l [] p in
    let g : GoesOnTo l starts (at ps x.0) (at ps s) =
    subst P (sym x.1.1) (record { goes_on = b.goes_on; next = next; inside = λ i. out e i }) in
    absurd (sc.carried x.0 (adjacent l ps k.apart k.places x.0 s x.1.0 lt g.next)
    ((k.reaches.each x.0 x.1.0).1 (subst Q (sym x.1.1) b.reached)) g none) where
      out : slice_index_or begins s false ≡ false → IsIn (at ps s) starts → ⊥
      out f i =
          let R : List Place → Type 0 = λ y. IsIn (at ps s) y in
          let y = picked_in begins ps (length ps) (at ps s) (subst R k.same i) in
          let S : ℕ → Type 0 = λ j. Marked begins j in
          false≢true (sym f ∙ subst S (at_once ps k.places.rising y.0 s y.1.0 lt (sym y.1.1.1)) y.1.1.0)

-- with the place at hand
record Taken (l : Listing) (ps : List Place) (reached begins : List Bool) (starts : List Place)
    (blocks : List Block) (pending : List Place) (s : ℕ) : Type 0 where
  starts_are : starts_of blocks ++ first_in (pending ++ at ps s ∷ []) ≡ picked begins ps (suc s)
  places_are : places_of blocks ++ (pending ++ at ps s ∷ []) ≡ picked reached ps (suc s)
  more : (q : Place) → GoesOnTo l starts (at ps s) q → RunsUpTo l starts (pending ++ at ps s ∷ []) q
  close : (e : Exit) → Leaves l [] starts (at ps s) e → RunsBlock l [] starts (pending ++ at ps s ∷ []) e

taken : (l : Listing) (ps : List Place) (reached begins : List Bool) (starts : List Place) (blocks : List Block)
    (pending : List Place) (s : ℕ)
    → Known l ps reached begins starts
    → Scanned l ps reached begins starts blocks pending s
    → s < length ps
    → Marked reached s
    → Taken l ps reached begins starts blocks pending s
taken l ps reached begins starts blocks pending s k sc lt m =
    ⊎_elim
    (λ none.
    let b =
    begins_here l ps reached begins starts blocks pending s k sc lt m none (slice_index_or begins s false) refl in
    let P : List Place → Type 0 = λ x. starts_of blocks ++ first_in (x ++ at ps s ∷ []) ≡ picked begins ps (suc s) in
    let Q : List Place → Type 0 =
    λ x. (q : Place) → GoesOnTo l starts (at ps s) q → RunsUpTo l starts (x ++ at ps s ∷ []) q in
    let R : List Place → Type 0 =
    λ x. (e : Exit) → Leaves l [] starts (at ps s) e → RunsBlock l [] starts (x ++ at ps s ∷ []) e in
    let before : starts_of blocks ≡ picked begins ps s =
    sym (append_nil (starts_of blocks)) ∙ (ap (λ x. starts_of blocks ++ first_in x) (sym none) ∙ sc.starts_are) in
    record {
      starts_are =
          subst P (sym none)
          (ap (λ x. x ++ at ps s ∷ []) before ∙ ap (λ c. picked begins ps s ++ one_if c (at ps s)) (sym b));
      places_are = all_places;
      more = subst Q (sym none) (λ q g. g);
      close = subst R (sym none) (λ e x. x);
    })
    (λ o.
    record {
      starts_are =
          ap (λ x. starts_of blocks ++ x) (first_stays l starts pending (at ps s) o.1.1)
          ∙ (sc.starts_are
          ∙ (sym (append_nil (picked begins ps s))
          ∙ ap (λ c. picked begins ps s ++ one_if c (at ps s))
          (sym (inner o.1.1 (slice_index_or begins s false) refl))));
      places_are = all_places;
      more = λ q g. run_more l starts pending (at ps s) q o.1.1 g;
      close = λ e x. run_close l starts pending (at ps s) e o.1.1 x;
    })
    sc.opened where
      all_places : places_of blocks ++ (pending ++ at ps s ∷ []) ≡ picked reached ps (suc s)
      all_places =
          sym (append_assoc (places_of blocks) pending (at ps s ∷ []))
          ∙ (ap (λ x. x ++ at ps s ∷ []) sc.places_are ∙ ap (λ c. picked reached ps s ++ one_if c (at ps s)) (sym m))

      inner : RunsUpTo l starts pending (at ps s)
          → (b : Bool)
          → slice_index_or begins s false ≡ b
          → slice_index_or begins s false ≡ false
      inner h false e = e
      inner h true e = absurd (run_inside l starts pending (at ps s) h (in_starts l ps reached begins starts k s lt e))

-- a start isn't gone on to
start_left : (l : Listing) (starts : List Place) (p q : Place) (e : Exit)
    → Leaves l [] starts p e
    → GoesOnTo l starts p q
    → ⊥
start_left l starts p q e x g =
    let P : Turn → Type 0 = λ t. LeavesBy [] starts p (standing l p) t e in
    jumps e (subst P g.goes_on x) where
      jumps : (e : Exit) → JumpsTo starts (next_in (standing l p) p.index) e → ⊥
      jumps Return h = h
      jumps (Jump n) h =
          let same : h.0 ≡ q = some_same (sym h.1.0 ∙ g.next) in
          let Q : Place → Type 0 = λ z. IsIn z starts in
          g.inside (subst Q same (in_of_slice starts n h.0 h.1.1))
      jumps (Test m n) h = h
      jumps (Switch table ns) h = h
      jumps Stop h = h

pub scanned_on : (l : Listing) (ps : List Place) (reached begins : List Bool) (starts : List Place)
    (blocks : List Block) (pending : List Place) (s : ℕ) (exit : Option Exit) (blocks' : List Block)
    (pending' : List Place)
    → Known l ps reached begins starts
    → Scanned l ps reached begins starts blocks pending s
    → s < length ps
    → Marked reached s
    → ExitOf l starts ps s exit
    → Passed blocks pending (at ps s) exit blocks' pending'
    → Scanned l ps reached begins starts blocks' pending' (s + 1)
scanned_on l ps reached begins starts blocks pending s exit blocks' pending' k sc lt m x p =
    let e : suc s ≡ s + 1 = omega arith in
    let P : ℕ → Type 0 = λ n. Scanned l ps reached begins starts blocks' pending' n in
    subst P e (by exit x p) where
      t : Taken l ps reached begins starts blocks pending s
      t = taken l ps reached begins starts blocks pending s k sc lt m

      same_slot : (j : ℕ) → suc j ≡ suc s → j ≡ s
      same_slot j f = omega arith

      on : (suc s < length ps) × GoesOnTo l starts (at ps s) (at ps (suc s))
          → Scanned l ps reached begins starts blocks (pending ++ at ps s ∷ []) (suc s)
      on g = record {
        run = sc.run;
        opened =
            inr (g.0, (next_reached l ps reached begins starts k s (suc s) lt g.0 m g.1, t.more (at ps (suc s)) g.1));
        carried = λ j f m' g' none. not_nil pending (at ps s) none;
        starts_are = t.starts_are;
        places_are = t.places_are;
      }

      off : (e : Exit)
          → Leaves l [] starts (at ps s) e
          → Scanned l ps reached begins starts (blocks ++ record { places = pending ++ at ps s ∷ []; exit = e } ∷ []) []
          (suc s)
      off e h =
          let b : Block = record { places = pending ++ at ps s ∷ []; exit = e } in
          let Q : ℕ → Type 0 = λ j. GoesOnTo l starts (at ps j) (at ps (suc s)) in
          record {
            run = all_more l starts blocks b sc.run (t.close e h);
            opened = inl refl;
            carried = λ j f m' g' none. start_left l starts (at ps s) (at ps (suc s)) e h (subst Q (same_slot j f) g');
            starts_are = append_nil (starts_of (blocks ++ b ∷ [])) ∙ (starts_more blocks b ∙ t.starts_are);
            places_are = append_nil (places_of (blocks ++ b ∷ [])) ∙ (places_more blocks b ∙ t.places_are);
          }

      by : (exit : Option Exit)
          → ExitOf l starts ps s exit
          → Passed blocks pending (at ps s) exit blocks' pending'
          → Scanned l ps reached begins starts blocks' pending' (suc s)
      by None x p =
          let P : List Block → Type 0 = λ b. Scanned l ps reached begins starts b pending' (suc s) in
          let Q : List Place → Type 0 = λ o. Scanned l ps reached begins starts blocks o (suc s) in
          subst P (sym p.0) (subst Q (sym p.1) (on x))
      by (Some e) x p =
          let P : List Block → Type 0 = λ b. Scanned l ps reached begins starts b pending' (suc s) in
          let Q : List Place → Type 0 =
          λ o. Scanned l ps reached begins starts
          (blocks ++ record { places = pending ++ at ps s ∷ []; exit = e } ∷ []) o (suc s) in
          subst P (sym p.0) (subst Q (sym p.1) (off e x))

-- a block has a first place
one_start : (l : Listing) (starts qs : List Place) (e : Exit) (rest : List Place) (n : ℕ)
    → RunsBlock l [] starts qs e
    → length rest ≡ n
    → length (first_in qs ++ rest) ≡ suc n
one_start l starts [] e rest n r h = absurd r
one_start l starts (q ∷ qs) e rest n r h = ap suc h

count_starts : (l : Listing) (starts : List Place) (bs : List Block)
    → AllRun l [] starts bs
    → length (starts_of bs) ≡ length bs
count_starts l starts [] h = refl
count_starts l starts (b ∷ bs) h =
    one_start l starts b.places b.exit (starts_of bs) (length bs) h.0 (count_starts l starts bs h.1)

module _ (l : Listing) (ps : List Place) (reached begins : List Bool) (starts : List Place) (blocks : List Block) where
  pub scanned_past : (pending : List Place) (s : ℕ)
      → Known l ps reached begins starts
      → Scanned l ps reached begins starts blocks pending s
      → s < length ps
      → slice_index_or reached s false ≡ false
      → Scanned l ps reached begins starts blocks pending (s + 1)
  scanned_past pending s k sc lt m =
      let e : suc s ≡ s + 1 = omega arith in
      let P : ℕ → Type 0 = λ n. Scanned l ps reached begins starts blocks pending n in
      subst P e (record {
        run = sc.run;
        opened = ⊎_elim (λ none. inl none) (λ o. absurd (false≢true (sym m ∙ o.1.0))) sc.opened;
        carried = λ j f m' g none.
            let Q : ℕ → Type 0 = λ i. Marked reached i in
            absurd (false≢true (sym m ∙ subst Q (same_slot j f) m'));
        starts_are =
            sc.starts_are
            ∙ (sym (append_nil (picked begins ps s))
            ∙ ap (λ c. picked begins ps s ++ one_if c (at ps s))
            (sym (not_begun (slice_index_or begins s false) refl)));
        places_are =
            sc.places_are
            ∙ (sym (append_nil (picked reached ps s)) ∙ ap (λ c. picked reached ps s ++ one_if c (at ps s)) (sym m));
      }) where
        same_slot : (j : ℕ) → suc j ≡ suc s → j ≡ s
        same_slot j f = omega arith

        not_begun : (b : Bool) → slice_index_or begins s false ≡ b → slice_index_or begins s false ≡ false
        not_begun false e = e
        not_begun true e =
            absurd (false≢true (sym m ∙ (k.reaches.each s lt).1 (starts_reached l (at ps s) ((k.begin.each s lt).0 e))))

  starts_last : (pending : List Place) (s : ℕ)
      → Scanned l ps reached begins starts blocks pending s
      → s ≡ length ps
      → starts_of blocks ≡ picked begins ps (length ps)
  starts_last pending s sc e =
      let none : pending ≡ [] = ⊎_elim (λ h. h) (λ o. absurd (omega (arith, o.0, e))) sc.opened in
      sym (append_nil (starts_of blocks))
      ∙ (ap (λ x. starts_of blocks ++ first_in x) (sym none) ∙ (sc.starts_are ∙ ap (λ n. picked begins ps n) e))

  pub scanned_count : (pending : List Place) (s : ℕ)
      → Known l ps reached begins starts
      → Scanned l ps reached begins starts blocks pending s
      → s ≡ length ps
      → length blocks ≡ length starts
  scanned_count pending s k sc e =
      sym (count_starts l starts blocks sc.run)
      ∙ ap length (starts_last pending s sc e ∙ sym k.same)

pub scanned_last : (l : Listing) (ps : List Place) (reached begins : List Bool) (starts : List Place)
    (blocks : List Block) (pending : List Place) (s : ℕ)
    → Known l ps reached begins starts
    → Scanned l ps reached begins starts blocks pending s
    → s ≡ length ps
    → IsFlow l [] blocks
scanned_last l ps reached begins starts blocks pending s k sc e =
    let none : pending ≡ [] = ⊎_elim (λ h. h) (λ o. absurd (omega (arith, o.0, e))) sc.opened in
    let f : starts_of blocks ≡ picked begins ps (length ps) =
    starts_last l ps reached begins starts blocks pending s sc e in
    let g : places_of blocks ≡ picked reached ps (length ps) =
    sym (append_nil (places_of blocks))
    ∙ (ap (λ x. places_of blocks ++ x) (sym none) ∙ (sc.places_are ∙ ap (λ n. picked reached ps n) e)) in
    let P : List Place → Type 0 = λ x. AllRun l [] x blocks in
    let Q : List Place → Type 0 = λ x. AreStarts l [] x in
    let R : List Place → Type 0 = λ x. Rising x in
    record {
      run = subst P (k.same ∙ sym f) sc.run;
      starts = subst Q (sym f) (are_starts l ps reached begins k.places k.reaches k.begin);
      each = λ p. (
        λ h.
            let S : List Place → Type 0 = λ x. IsIn p x in
            let T : Place → Type 0 = λ q. Reached l [] q in
            let y = picked_in reached ps (length ps) p (subst S g h) in
            subst T (sym y.1.1.1) ((k.reaches.each y.0 y.1.0).0 y.1.1.0),
        λ r.
            let S : List Place → Type 0 = λ x. IsIn p x in
            let T : Place → Type 0 = λ q. Reached l [] q in
            let U : Place → Type 0 = λ q. IsIn q (picked reached ps (length ps)) in
            let y = in_at p ps (k.reaches.all p r) in
            subst S (sym g) (subst U y.1.1
            (in_picked reached ps (length ps) y.0 y.1.0 ((k.reaches.each y.0 y.1.0).1 (subst T (sym y.1.1) r)))),
      );
      rising = subst R (sym g) (rising_picked reached ps (length ps) k.places.rising (omega arith));
    }
