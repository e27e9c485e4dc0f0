-- The search for reached places, from its start to its end.
use Rattle.std.proofs.Common.{◌≡◌, ℕ, zero, suc, ◌<◌, Bool, true, false, List, [], ◌∷◌, ◌++◌, length, set, replicate, refl, sym, ap, ◌∙◌, subst, ◌⊎◌, inl, inr, ⊎_elim, arith, Option, Some, None, ◌==◌}
use Rattle.std.specs.Prelude.{cond, slice_get}
use Rattle.std.proofs.Math.ListN.{length-set, length-replicate}
use Rattle.std.proofs.lemmas.List.{get_or-set_same}
use Rattle.std.proofs.lemmas.Bool.{cases_order}
use Rattle.std.proofs.lemmas.Option.{slice_get_within, get_or_from_slice_get}
use Rattle.pcode_model.specs.declared.listing.Instruction.{Instruction}
use Rattle.pcode_model.specs.declared.listing.Place.{Place}
use Rattle.pcode_model.specs.declared.listing.Varnode.{Varnode}
use Rattle.pcode_model.specs.declared.listing.Listing.{Listing}
use Rattle.pcode_model.specs.declared.flow.FlowWhy.{FlowWhy}
use Rattle.pcode_model.specs.declared.flow.FlowWhy.TheVariants.{NoTarget, FallsOff, NoTable}
use Rattle.pcode_model.specs.declared.flow.Turn.{Turn}
use Rattle.pcode_model.specs.declared.flow.Turn.TheVariants.{GoesOn, Returns, Stops, Branches, Tests, Switches}
use Rattle.pcode_model.specs.Places.{place, Standing, Nothing, Passes, Does, standing, next_place, relative_place}
use Rattle.pcode_model.specs.Step.{first_place}
use Rattle.pcode_model.specs.Flow.{IsIn, IsBefore, Rising, Way, Leads, Fails, stands, way_to, relative_way, branch_way, turn_ways, standing_ways, ways, turn_of, LeadsTo, Reached, First, Next}
use Rattle.flow.specs.declared.edges.Edge.{Edge}
use Rattle.flow.specs.declared.edges.Edge.TheVariants.{To, Faulty}
use Rattle.flow.specs.declared.edges.Leaving.{Leaving}
use Rattle.flow.specs.declared.edges.Leaving.TheVariants.{Ends, One, Two}
use Rattle.flow.specs.Slots.{at, Marked, ArePlaces, MarksReached}
use Rattle.flow.specs.Edges.{Means, AllMean, targets_of, edge_targets, Inside, EdgeInside}
use Rattle.flow.specs.Steps.{Noted, Expanded}
use Rattle.flow.proofs.Order.{at_before, not_before, in_at, at_in}
use Rattle.flow.proofs.Adjacent.{lead_same}
use Rattle.pcode_model.proofs.Members.{behind, in_either, in_front}
use Rattle.flow.proofs.Rounds.{marked_back}

-- ---- places that edges lead to stand

lead_to : (l : Listing) (why : FlowWhy) (p q : Place) → Leads q ≡ way_to l why p → stands l q ≡ true
lead_to l why p q e = by (stands l p) refl where
  by : (b : Bool) → stands l p ≡ b → stands l q ≡ true
  by true h =
      let f : way_to l why p ≡ Leads p = ap (λ (b : Bool). cond b (Leads p) (Fails why)) h in
      ap (λ x. stands l x) (lead_same q p (e ∙ f)) ∙ h
  by false h =
      let f : way_to l why p ≡ Fails why = ap (λ (b : Bool). cond b (Leads p) (Fails why)) h in
      let g : Leads q ≡ Fails why = e ∙ f in
      absurd (cc)

lead_relative : (l : Listing) (o : Option Place) (q : Place) → Leads q ≡ relative_way l o → stands l q ≡ true
lead_relative l None q e = absurd (cc)
lead_relative l (Some p) q e = lead_to l FallsOff p q e

lead_branch : (l : Listing) (i : Instruction) (n : ℕ) (to : Varnode) (q : Place)
    → Leads q ≡ branch_way l i n to
    → stands l q ≡ true
lead_branch l i n to q e = by (to.space == 0) refl where
  by : (b : Bool) → (to.space == 0) ≡ b → stands l q ≡ true
  by true h =
      lead_relative l (relative_place i n to) q
      (e ∙ ap (λ (b : Bool). cond b (relative_way l (relative_place i n to)) (way_to l NoTarget (place to.offset 0))) h)
  by false h =
      lead_to l NoTarget (place to.offset 0) q
      (e ∙ ap (λ (b : Bool). cond b (relative_way l (relative_place i n to)) (way_to l NoTarget (place to.offset 0))) h)

lead_turn : (l : Listing) (p : Place) (i : Instruction) (t : Turn) (q : Place)
    → IsIn (Leads q) (turn_ways l [] p i t)
    → stands l q ≡ true
lead_turn l p i GoesOn q h = ⊎_elim (λ e. lead_to l FallsOff (next_place i p.index) q e) (λ bad. absurd bad) h
lead_turn l p i Returns q h = absurd h
lead_turn l p i Stops q h = absurd h
lead_turn l p i (Branches to) q h = ⊎_elim (λ e. lead_branch l i p.index to q e) (λ bad. absurd bad) h
lead_turn l p i (Tests to) q h =
    ⊎_elim
    (λ e. lead_branch l i p.index to q e)
    (λ k. ⊎_elim (λ e. lead_to l FallsOff (next_place i p.index) q e) (λ bad. absurd bad) k)
    h
lead_turn l p i Switches q h = ⊎_elim (λ e. absurd (never q e)) (λ bad. absurd bad) h where
  never : (q : Place) → Leads q ≡ Fails NoTable → ⊥
  never q e = cc

pub lead_stands : (l : Listing) (p q : Place) → LeadsTo l [] p q → stands l q ≡ true
lead_stands l p q h = by (standing l p) h where
  by : (s : Standing) → IsIn (Leads q) (standing_ways l [] p s) → stands l q ≡ true
  by Nothing h = ⊎_elim (λ e. absurd (never q e)) (λ bad. absurd bad) h where
    never : (q : Place) → Leads q ≡ Fails NoTarget → ⊥
    never q e = cc
  by (Passes i) h = ⊎_elim (λ e. lead_to l FallsOff _ q e) (λ bad. absurd bad) h
  by (Does i op) h = lead_turn l p i (turn_of l op.code op.inputs) q h

-- ---- edges by slot

pub at_once : (ps : List Place) → Rising ps → (j k : ℕ) → j < length ps → k < length ps → at ps j ≡ at ps k → j ≡ k
at_once ps r j k a b e =
    ⊎_elim (λ same. same)
    (λ o. ⊎_elim
    (λ lt. absurd (not_before (at ps k)
    (let P : Place → Type 0 = λ q. IsBefore q (at ps k) in subst P e (at_before ps r j k lt b))))
    (λ lt. absurd (not_before (at ps j)
    (let P : Place → Type 0 = λ q. IsBefore q (at ps j) in subst P (sym e) (at_before ps r k j lt a))))
    o)
    (cases_order j k)

edge_leads : (ps : List Place) (e : Edge) (w : Way) (b : ℕ)
    → Means ps e w
    → IsIn b (edge_targets e)
    → Leads (at ps b) ≡ w
edge_leads ps (To s) w b m h = ⊎_elim (λ same. ap (λ k. Leads (at ps k)) same ∙ sym m.1) (λ bad. absurd bad) h
edge_leads ps (Faulty why) w b m h = absurd h

pub targets_lead : (ps : List Place) (edges : Leaving) (ws : List Way) (b : ℕ)
    → AllMean ps edges ws
    → IsIn b (targets_of edges)
    → IsIn (Leads (at ps b)) ws
targets_lead ps Ends ws b m h = absurd h
targets_lead ps (One e) ws b m h =
    let P : List Way → Type 0 = λ x. IsIn (Leads (at ps b)) x in
    subst P (sym m.1.1) (inl (edge_leads ps e m.0 b m.1.0 h))
targets_lead ps (Two e f) ws b m h =
    let P : List Way → Type 0 = λ x. IsIn (Leads (at ps b)) x in
    subst P (sym m.1.1.1.1)
    (⊎_elim
    (λ a. inl (edge_leads ps e m.0 b m.1.0 a))
    (λ a. inr (inl (edge_leads ps f m.1.1.0 b m.1.1.1.0 a)))
    (in_either (edge_targets e) (edge_targets f) b h))

leads_edge : (ps : List Place)
    → Rising ps
    → (e : Edge) (w : Way) (b : ℕ)
    → b < length ps
    → Means ps e w
    → Leads (at ps b) ≡ w
    → IsIn b (edge_targets e)
leads_edge ps r (To s) w b lt m e = inl (at_once ps r b s lt m.0 (lead_same (at ps b) (at ps s) (e ∙ m.1)))
leads_edge ps r (Faulty why) w b lt m e = let f : Leads (at ps b) ≡ Fails why = e ∙ m in absurd (cc)

pub leads_targets : (ps : List Place)
    → Rising ps
    → (edges : Leaving) (ws : List Way) (b : ℕ)
    → b < length ps
    → AllMean ps edges ws
    → IsIn (Leads (at ps b)) ws
    → IsIn b (targets_of edges)
leads_targets ps r Ends ws b lt m h = let P : List Way → Type 0 = λ x. IsIn (Leads (at ps b)) x in absurd (subst P m h)
leads_targets ps r (One e) ws b lt m h =
    let P : List Way → Type 0 = λ x. IsIn (Leads (at ps b)) x in
    ⊎_elim (λ a. leads_edge ps r e m.0 b lt m.1.0 a) (λ bad. absurd bad) (subst P m.1.1 h)
leads_targets ps r (Two e f) ws b lt m h =
    let P : List Way → Type 0 = λ x. IsIn (Leads (at ps b)) x in
    ⊎_elim (λ a. in_front (edge_targets e) (edge_targets f) b (leads_edge ps r e m.0 b lt m.1.0 a))
    (λ k. ⊎_elim
    (λ a. behind (edge_targets e) (edge_targets f) b (leads_edge ps r f m.1.1.0 b lt m.1.1.1.0 a))
    (λ bad. absurd bad)
    k)
    (subst P m.1.1.1.1 h)

edge_inside : (ps : List Place) (e : Edge) (w : Way) (n : ℕ) → length ps ≡ n → Means ps e w → EdgeInside n e
edge_inside ps (To s) w n long m = omega (arith, m.0)
edge_inside ps (Faulty why) w n long m = tt

pub inside : (ps : List Place) (edges : Leaving) (ws : List Way) (n : ℕ)
    → length ps ≡ n
    → AllMean ps edges ws
    → Inside n edges
inside ps Ends ws n long m = tt
inside ps (One e) ws n long m = edge_inside ps e m.0 n long m.1.0
inside ps (Two e f) ws n long m = (edge_inside ps e m.0 n long m.1.0, edge_inside ps f m.1.1.0 n long m.1.1.1.0)

-- ---- the search

pub record Searching (l : Listing) (ps : List Place) (start : ℕ) (seen : List Bool) (work : List ℕ) : Type 0 where
  pub long : length seen ≡ length ps
  pub begun : Marked seen start
  pub sound : (n : ℕ) → Marked seen n → Reached l [] (at ps n)
  pub known : (n : ℕ) → IsIn n work → Marked seen n
  pub closed : (a b : ℕ)
      → Marked seen a
      → b < length ps
      → LeadsTo l [] (at ps a) (at ps b)
      → IsIn a work ⊎ Marked seen b

pub searched_on : (l : Listing) (ps : List Place) (start : ℕ) (seen : List Bool) (work : List ℕ) (n : ℕ)
    (edges : Leaving) (seen' : List Bool) (work' : List ℕ)
    → Rising ps
    → Searching l ps start seen (work ++ n ∷ [])
    → AllMean ps edges (ways l [] (at ps n))
    → Expanded seen work (targets_of edges) seen' work'
    → Searching l ps start seen' work'
searched_on l ps start seen work n edges seen' work' r s m x =
    let mine : Marked seen n = s.known n (behind work (n ∷ []) n (inl refl)) in
    record {
      long = x.long ∙ s.long;
      begun = x.keeps start s.begun;
      sound = λ k h.
          ⊎_elim
          (λ old. s.sound k old)
          (λ new. Next (at ps n) (at ps k) (s.sound n mine) (targets_lead ps edges (ways l [] (at ps n)) k m new.0))
          (x.fresh k h);
      known = λ k h. ⊎_elim (λ old. x.keeps k (s.known k (in_front work (n ∷ []) k old))) (λ new. new) (x.only k h);
      closed = λ a b h lt e. ⊎_elim
          (λ old. ⊎_elim
          (λ w. ⊎_elim (λ w'. inl (x.waits a w'))
          (λ is. ⊎_elim
          (λ same. inr (x.all b (leads_targets ps r edges (ways l [] (at ps n)) b lt m
          (let P : ℕ → Type 0 = λ k. LeadsTo l [] (at ps k) (at ps b) in subst P same e))))
          (λ bad. absurd bad)
          is)
          (in_either work (n ∷ []) a w))
          (λ k. inr (x.keeps b k))
          (s.closed a b old lt e))
          (λ new. inl new.1)
          (x.fresh a h);
    }

pub none_marked : (k n : ℕ) → Marked (replicate k false) n → ⊥
none_marked zero n h = cc
none_marked (suc k) zero h = cc
none_marked (suc k) (suc n) h = none_marked k n h

first_state : (l : Listing) (ps : List Place) (start : ℕ)
    → start < length ps
    → at ps start ≡ first_place l
    → Searching l ps start (set (replicate (length ps) false) start true) (start ∷ [])
first_state l ps start lt e =
    let none : List Bool = replicate (length ps) false in
    let long : length none ≡ length ps = length-replicate (length ps) false in
    let mine : Marked (set none start true) start = get_or-set_same none start true false (omega arith) in
    record {
      long = length-set none start true ∙ long;
      begun = mine;
      sound = λ n h.
          ⊎_elim
          (λ same. let P : Place → Type 0 = λ p. Reached l [] p in subst P (sym (ap (λ k. at ps k) same ∙ e)) First)
          (λ old. absurd (none_marked (length ps) n old))
          (marked_back none start n h);
      known = λ n h. ⊎_elim
          (λ same. let P : ℕ → Type 0 = λ k. Marked (set none start true) k in subst P (sym same) mine)
          (λ bad. absurd bad)
          h;
      closed = λ a b h b_lt k.
          ⊎_elim (λ same. inl (inl same)) (λ old. absurd (none_marked (length ps) a old)) (marked_back none start a h);
    }

pub searched_first : (l : Listing) (ps : List Place) (start : ℕ) (seen : List Bool) (work : List ℕ)
    → slice_get ps start ≡ Some (first_place l)
    → Noted (replicate (length ps) false) [] start seen work
    → Searching l ps start seen work
searched_first l ps start seen work e noted =
    let lt : start < length ps = slice_get_within ps start (first_place l) e in
    let f : at ps start ≡ first_place l = get_or_from_slice_get ps start (first_place l) (place 0 0) e in
    ⊎_elim
    (λ old. absurd (none_marked (length ps) start old.0))
    (λ new.
    let P : List Bool → Type 0 = λ s. Searching l ps start s work in
    let Q : List ℕ → Type 0 = λ w. Searching l ps start (set (replicate (length ps) false) start true) w in
    subst P (sym new.1.0) (subst Q (sym new.1.1) (first_state l ps start lt f)))
    noted

-- a reached place has a marked slot
pub record Slot (ps : List Place) (seen : List Bool) (p : Place) : Type 0 where
  pub slot : ℕ
  pub inside : slot < length ps
  pub is : at ps slot ≡ p
  pub marked : Marked seen slot

pub marked_inside : (seen : List Bool) (n : ℕ) → Marked seen n → n < length seen
marked_inside [] n h = cc
marked_inside (b ∷ seen) zero h = omega arith
marked_inside (b ∷ seen) (suc n) h = omega (arith, marked_inside seen n h)

module _ (l : Listing) (ps : List Place) (start : ℕ) (seen : List Bool) where
  marked_all : ArePlaces l ps
      → slice_get ps start ≡ Some (first_place l)
      → Searching l ps start seen []
      → (p : Place)
      → Reached l [] p
      → Slot ps seen p
  marked_all a e s p First = record {
    slot = start;
    inside = slice_get_within ps start (first_place l) e;
    is = get_or_from_slice_get ps start (first_place l) (place 0 0) e;
    marked = s.begun;
  }
  marked_all a e s q (Next p q' r lead) =
      let x = marked_all a e s p r in
      let y = in_at q' ps ((a.each q').1 (lead_stands l p q' lead)) in
      let P : Place → Type 0 = λ z. LeadsTo l [] z (at ps y.0) in
      let Q : Place → Type 0 = λ z. LeadsTo l [] p z in
      record {
        slot = y.0;
        inside = y.1.0;
        is = y.1.1;
        marked =
            ⊎_elim
            (λ bad. absurd bad)
            (λ k. k)
            (s.closed x.slot y.0 x.marked y.1.0 (subst P (sym x.is) (subst Q (sym y.1.1) lead)));
      }

  pub searched_all : ArePlaces l ps
      → slice_get ps start ≡ Some (first_place l)
      → Searching l ps start seen []
      → MarksReached l [] ps seen
  searched_all a e s = record {
    long = s.long;
    each = λ n lt. (
      s.sound n,
      λ r.
          let x = marked_all a e s (at ps n) r in
          let P : ℕ → Type 0 = λ k. Marked seen k in
          subst P (at_once ps a.rising x.slot n x.inside lt x.is) x.marked,
    );
    all = λ p r.
        let x = marked_all a e s p r in
        let P : Place → Type 0 = λ q. IsIn q ps in
        subst P x.is (at_in ps x.slot x.inside);
  }

  -- the last of the work is a place
  pub last_inside : (work : List ℕ) (n : ℕ)
      → Searching l ps start seen (work ++ n ∷ [])
      → n < length ps
  last_inside work n s =
      omega (arith, marked_inside seen n (s.known n (behind work (n ∷ []) n (inl refl))), s.long)

  pub same_work : (w w' : List ℕ)
      → w ≡ w'
      → Searching l ps start seen w
      → Searching l ps start seen w'
  same_work w w' e s = let P : List ℕ → Type 0 = λ x. Searching l ps start seen x in subst P e s

pub no_items : (xs : List ℕ) → length xs ≡ 0 → xs ≡ []
no_items [] e = refl
no_items (x ∷ xs) e = absurd (omega arith)
