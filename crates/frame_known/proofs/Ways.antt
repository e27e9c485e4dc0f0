-- Where the places of a block lead: inside it to the next one, and at its end to the blocks behind it.
use Rattle.std.proofs.Common.{◌≡◌, ℕ, true, List, [], ◌∷◌, Option, Some, None, refl, sym, ap, ◌∙◌, subst, ◌⊎◌, inl, inr, ⊎_elim}
use Rattle.std.specs.Prelude.{slice_get}
use Rattle.pcode_model.specs.declared.listing.Op.{Op}
use Rattle.pcode_model.specs.declared.listing.Instruction.{Instruction}
use Rattle.pcode_model.specs.declared.listing.Place.{Place}
use Rattle.pcode_model.specs.declared.listing.Listing.{Listing}
use Rattle.pcode_model.specs.declared.flow.FlowWhy.{FlowWhy}
use Rattle.pcode_model.specs.declared.flow.FlowWhy.TheVariants.{FallsOff, NoTarget}
use Rattle.pcode_model.specs.declared.flow.Turn.{Turn}
use Rattle.pcode_model.specs.declared.flow.Turn.TheVariants.{GoesOn, Returns, Stops, Branches, Tests, Switches}
use Rattle.pcode_model.specs.declared.flow.Exit.{Exit}
use Rattle.pcode_model.specs.declared.flow.Exit.TheVariants.{Return, Jump, Test, Switch, Stop}
use Rattle.pcode_model.specs.Places.{Standing, Nothing, Passes, Does, standing, branch_place, next_instruction, next_place}
use Rattle.pcode_model.specs.Flow.{IsIn, Way, Leads, Fails, stands, stands_by, way_to, branch_way, turn_ways, standing_ways, ways, turn_in, turn_of, next_in, LeadsTo, Reached, First, Next, NoFault, IsStart, JumpsTo, TestsTo, LeavesBy, Leaves, GoesOnTo}
use Rattle.flow.proofs.Adjacent.{branch_is, lead_is, lead_next, some_same}
use Rattle.flow.proofs.Reaching.{lead_stands}
use Rattle.frame_known.specs.Entering.{nexts}

abbrev NoFail : List Way → Type 0
NoFail ws = (why : FlowWhy) → IsIn (Fails why) ws → ⊥

-- a way that isn't a fault leads somewhere
leads_somewhere : (w : Way) → ((why : FlowWhy) → w ≡ Fails why → ⊥) → (q : Place) × (w ≡ Leads q)
leads_somewhere (Leads q) h = (q, refl)
leads_somewhere (Fails why) h = absurd (h why refl)

module _ (l : Listing) (sound : NoFault l []) where
  no_fail : (p : Place) → Reached l [] p → NoFail (ways l [] p)
  no_fail p r why h = sound p why (r, inl h)

  pub reached_stands : (p : Place) → Reached l [] p → stands l p ≡ true
  reached_stands p First = by (standing l p) refl where
    by : (here : Standing) → standing l p ≡ here → stands_by (standing l p) ≡ true
    by Nothing e =
        let P : Standing → Type 0 = λ x. IsIn (Fails NoTarget) (standing_ways l [] p x) in
        absurd (no_fail p First NoTarget (subst P (sym e) (inl refl)))
    by (Passes i) e = ap stands_by e
    by (Does i op) e = ap stands_by e
  reached_stands p (Next q p' r h) = lead_stands l q p h

  -- ---- inside a block

  pub inner_on : (starts : List Place) (p q x : Place)
      → Reached l [] p
      → GoesOnTo l starts p q
      → LeadsTo l [] p x
      → x ≡ q
  inner_on starts p q x r g h =
      some_same (sym (lead_next l p x (reached_stands p r) g.goes_on h) ∙ g.next)

  pub inner_back : (starts : List Place) (p q : Place) → Reached l [] p → GoesOnTo l starts p q → LeadsTo l [] p q
  inner_back starts p q r g = by (standing l p) refl g.goes_on g.next (no_fail p r)
    where
      one : (why : FlowWhy) (x : Place)
          → x ≡ q
          → ((other : FlowWhy) → way_to l why x ≡ Fails other → ⊥)
          → IsIn (Leads q) (way_to l why x ∷ [])
      one why x e none =
          let w = leads_somewhere (way_to l why x) none in
          let same : w.0 ≡ x = lead_is l why x w.0 (sym w.1) in
          inl (ap Leads (sym (same ∙ e)) ∙ sym w.1)

      turned : (i : Instruction) (t : Turn)
          → t ≡ GoesOn
          → next_place i p.index ≡ q
          → NoFail (turn_ways l [] p i t)
          → IsIn (Leads q) (turn_ways l [] p i t)
      turned i GoesOn e f none = one FallsOff (next_place i p.index) f (λ why h. none why (inl (sym h)))
      turned i Returns e f none = absurd (cc)
      turned i Stops e f none = absurd (cc)
      turned i (Branches to) e f none = absurd (cc)
      turned i (Tests to) e f none = absurd (cc)
      turned i Switches e f none = absurd (cc)

      by : (here : Standing)
          → standing l p ≡ here
          → turn_in l (standing l p) ≡ GoesOn
          → next_in (standing l p) p.index ≡ Some q
          → NoFail (standing_ways l [] p (standing l p))
          → IsIn (Leads q) (standing_ways l [] p (standing l p))
      by Nothing e t n none = absurd (let f : None ≡ Some q = sym (ap (λ x. next_in x p.index) e) ∙ n in cc)
      by (Passes i) e t n none =
          let P : Standing → Type 0 = λ x. IsIn (Leads q) (standing_ways l [] p x) in
          let Q : Standing → Type 0 = λ x. NoFail (standing_ways l [] p x) in
          let f : next_instruction i ≡ q = some_same (sym (ap (λ x. next_in x p.index) e) ∙ n) in
          let g = subst Q e none in
          subst P (sym e) (one FallsOff (next_instruction i) f (λ why h. g why (inl (sym h))))
      by (Does i op) e t n none =
          let P : Standing → Type 0 = λ x. IsIn (Leads q) (standing_ways l [] p x) in
          let Q : Standing → Type 0 = λ x. NoFail (standing_ways l [] p x) in
          let f : next_place i p.index ≡ q = some_same (sym (ap (λ x. next_in x p.index) e) ∙ n) in
          subst P (sym e) (turned i (turn_of l op.code op.inputs) (sym (ap (turn_in l) e) ∙ t) f (subst Q e none))

  -- ---- at the end of a block

  module _ (starts : List Place) where
    -- the block behind that begins at this place
    abbrev pub Behind : Exit → Place → Type 0
    Behind e q = (m : ℕ) × (IsIn m (nexts e) × (slice_get starts m ≡ Some q))

    jump_on : (e : Exit) (to : Option Place) (q : Place) → JumpsTo starts to e → to ≡ Some q → Behind e q
    jump_on Return to q h is = absurd h
    jump_on (Jump n) to q h is =
        let same : h.0 ≡ q = some_same (sym h.1.0 ∙ is) in (n, (inl refl, h.1.1 ∙ ap Some same))
    jump_on (Test m n) to q h is = absurd h
    jump_on (Switch table ns) to q h is = absurd h
    jump_on Stop to q h is = absurd h

    test_on : (e : Exit) (to next : Option Place) (q : Place)
        → TestsTo starts to next e
        → (to ≡ Some q) ⊎ (next ≡ Some q)
        → Behind e q
    test_on Return to next q h is = absurd h
    test_on (Jump n) to next q h is = absurd h
    test_on (Test m n) to next q h (inl is) =
        let x = h.0 in
        let same : x.0 ≡ q = some_same (sym x.1.0 ∙ is) in (m, (inl refl, x.1.1 ∙ ap Some same))
    test_on (Test m n) to next q h (inr is) =
        let x = h.1 in
        let same : x.0 ≡ q = some_same (sym x.1.0 ∙ is) in (n, (inr (inl refl), x.1.1 ∙ ap Some same))
    test_on (Switch table ns) to next q h is = absurd h
    test_on Stop to next q h is = absurd h

    turn_on : (p : Place) (i : Instruction) (op : Op) (t : Turn) (e : Exit) (q : Place)
        → LeavesBy [] starts p (Does i op) t e
        → IsIn (Leads q) (turn_ways l [] p i t)
        → Behind e q
    turn_on p i op GoesOn e q by (inl h) =
        jump_on e (Some (next_place i p.index)) q by (ap Some (sym (lead_is l FallsOff (next_place i p.index) q h)))
    turn_on p i op GoesOn e q by (inr h) = absurd h
    turn_on p i op Returns e q by h = absurd h
    turn_on p i op Stops e q by h = absurd h
    turn_on p i op (Branches to) e q by (inl h) =
        jump_on e (branch_place i p.index to) q by (branch_is l i p.index to q h)
    turn_on p i op (Branches to) e q by (inr h) = absurd h
    turn_on p i op (Tests to) e q by (inl h) =
        test_on e (branch_place i p.index to) (Some (next_place i p.index)) q by (inl (branch_is l i p.index to q h))
    turn_on p i op (Tests to) e q by (inr (inl h)) =
        test_on e (branch_place i p.index to) (Some (next_place i p.index)) q by
        (inr (ap Some (sym (lead_is l FallsOff (next_place i p.index) q h))))
    turn_on p i op (Tests to) e q by (inr (inr h)) = absurd h
    turn_on p i op Switches e q by h = absurd by

    pub last_on : (p : Place) (e : Exit) (q : Place) → Leaves l [] starts p e → LeadsTo l [] p q → Behind e q
    last_on p e q = by (standing l p) where
      by : (here : Standing)
          → LeavesBy [] starts p here (turn_in l here) e
          → IsIn (Leads q) (standing_ways l [] p here)
          → Behind e q
      by Nothing h (inl f) = absurd (cc)
      by Nothing h (inr f) = absurd f
      by (Passes i) h (inl f) =
          jump_on e (Some (next_instruction i)) q h (ap Some (sym (lead_is l FallsOff (next_instruction i) q f)))
      by (Passes i) h (inr f) = absurd f
      by (Does i op) h f = turn_on p i op (turn_of l op.code op.inputs) e q h f

    -- a way that isn't a fault, and leads where a block behind begins
    way_back : (o : Option Place) (w : Way) (q : Place)
        → ((x : Place) → Leads x ≡ w → o ≡ Some x)
        → ((why : FlowWhy) → w ≡ Fails why → ⊥)
        → o ≡ Some q
        → Leads q ≡ w
    way_back o w q onto none is =
        let x = leads_somewhere w none in
        let same : x.0 ≡ q = some_same (sym (onto x.0 (sym x.1)) ∙ is) in
        ap Leads (sym same) ∙ sym x.1

    start_same : (to : Option Place) (m n : ℕ) (q : Place)
        → IsStart starts to n
        → m ≡ n
        → slice_get starts m ≡ Some q
        → to ≡ Some q
    start_same to m n q h e is =
        h.1.0 ∙ ap Some (some_same (sym h.1.1 ∙ ap (slice_get starts) (sym e) ∙ is))

    jump_back : (e : Exit) (to : Option Place) (m : ℕ) (q : Place)
        → JumpsTo starts to e
        → IsIn m (nexts e)
        → slice_get starts m ≡ Some q
        → to ≡ Some q
    jump_back Return to m q h is get = absurd h
    jump_back (Jump n) to m q h (inl is) get = start_same to m n q h is get
    jump_back (Jump n) to m q h (inr is) get = absurd is
    jump_back (Test a b) to m q h is get = absurd h
    jump_back (Switch table ns) to m q h is get = absurd h
    jump_back Stop to m q h is get = absurd h

    test_back : (e : Exit) (to next : Option Place) (m : ℕ) (q : Place)
        → TestsTo starts to next e
        → IsIn m (nexts e)
        → slice_get starts m ≡ Some q
        → (to ≡ Some q) ⊎ (next ≡ Some q)
    test_back Return to next m q h is get = absurd h
    test_back (Jump n) to next m q h is get = absurd h
    test_back (Test a b) to next m q h (inl is) get = inl (start_same to m a q h.0 is get)
    test_back (Test a b) to next m q h (inr (inl is)) get = inr (start_same next m b q h.1 is get)
    test_back (Test a b) to next m q h (inr (inr is)) get = absurd is
    test_back (Switch table ns) to next m q h is get = absurd h
    test_back Stop to next m q h is get = absurd h

    none_on : (e : Exit) (m : ℕ) → (e ≡ Return) ⊎ (e ≡ Stop) → IsIn m (nexts e) → ⊥
    none_on e m (inl f) is = subst (λ x. IsIn m (nexts x)) f is
    none_on e m (inr f) is = subst (λ x. IsIn m (nexts x)) f is

    next_onto : (why : FlowWhy) (x y : Place) → Leads y ≡ way_to l why x → Some x ≡ Some y
    next_onto why x y h = ap Some (sym (lead_is l why x y h))

    turn_back : (p : Place) (i : Instruction) (op : Op) (t : Turn) (e : Exit) (m : ℕ) (q : Place)
        → LeavesBy [] starts p (Does i op) t e
        → NoFail (turn_ways l [] p i t)
        → IsIn m (nexts e)
        → slice_get starts m ≡ Some q
        → IsIn (Leads q) (turn_ways l [] p i t)
    turn_back p i op GoesOn e m q by none is get =
        inl (way_back (Some (next_place i p.index)) (way_to l FallsOff (next_place i p.index)) q
        (next_onto FallsOff (next_place i p.index)) (λ why h. none why (inl (sym h)))
        (jump_back e (Some (next_place i p.index)) m q by is get))
    turn_back p i op Returns e m q by none is get = absurd (none_on e m (inl by) is)
    turn_back p i op Stops e m q by none is get = absurd (none_on e m (inr by) is)
    turn_back p i op (Branches to) e m q by none is get =
        inl (way_back (branch_place i p.index to) (branch_way l i p.index to) q
        (λ x. branch_is l i p.index to x) (λ why h. none why (inl (sym h)))
        (jump_back e (branch_place i p.index to) m q by is get))
    turn_back p i op (Tests to) e m q by none is get =
        ⊎_elim
        (λ f. inl (way_back (branch_place i p.index to) (branch_way l i p.index to) q
        (λ x. branch_is l i p.index to x) (λ why h. none why (inl (sym h))) f))
        (λ f. inr (inl (way_back (Some (next_place i p.index)) (way_to l FallsOff (next_place i p.index)) q
        (next_onto FallsOff (next_place i p.index)) (λ why h. none why (inr (inl (sym h)))) f)))
        (test_back e (branch_place i p.index to) (Some (next_place i p.index)) m q by is get)
    turn_back p i op Switches e m q by none is get = absurd by

    pub last_back : (p : Place) (e : Exit) (m : ℕ) (q : Place)
        → Reached l [] p
        → Leaves l [] starts p e
        → IsIn m (nexts e)
        → slice_get starts m ≡ Some q
        → LeadsTo l [] p q
    last_back p e m q r leave is get = by (standing l p) leave (no_fail p r) where
      by : (here : Standing)
          → LeavesBy [] starts p here (turn_in l here) e
          → NoFail (standing_ways l [] p here)
          → IsIn (Leads q) (standing_ways l [] p here)
      by Nothing h none = absurd (none NoTarget (inl refl))
      by (Passes i) h none =
          inl (way_back (Some (next_instruction i)) (way_to l FallsOff (next_instruction i)) q
          (next_onto FallsOff (next_instruction i)) (λ why f. none why (inl (sym f)))
          (jump_back e (Some (next_instruction i)) m q h is get))
      by (Does i op) h none = turn_back p i op (turn_of l op.code op.inputs) e m q h none is get

    -- each block behind begins at a start
    pub next_start : (p : Place) (e : Exit) (m : ℕ)
        → Leaves l [] starts p e
        → IsIn m (nexts e)
        → (q : Place) × (slice_get starts m ≡ Some q)
    next_start p e m = by (standing l p) where
      start_of : (to : Option Place) (n : ℕ) → IsStart starts to n → m ≡ n → (q : Place) × (slice_get starts m ≡ Some q)
      start_of to n h same = (h.0, ap (slice_get starts) same ∙ h.1.1)

      jump_start : (x : Exit) (to : Option Place)
          → JumpsTo starts to x
          → IsIn m (nexts x)
          → (q : Place) × (slice_get starts m ≡ Some q)
      jump_start Return to h is = absurd h
      jump_start (Jump n) to h (inl is) = start_of to n h is
      jump_start (Jump n) to h (inr is) = absurd is
      jump_start (Test a b) to h is = absurd h
      jump_start (Switch table ns) to h is = absurd h
      jump_start Stop to h is = absurd h

      test_start : (x : Exit) (to next : Option Place)
          → TestsTo starts to next x
          → IsIn m (nexts x)
          → (q : Place) × (slice_get starts m ≡ Some q)
      test_start Return to next h is = absurd h
      test_start (Jump n) to next h is = absurd h
      test_start (Test a b) to next h (inl is) = start_of to a h.0 is
      test_start (Test a b) to next h (inr (inl is)) = start_of next b h.1 is
      test_start (Test a b) to next h (inr (inr is)) = absurd is
      test_start (Switch table ns) to next h is = absurd h
      test_start Stop to next h is = absurd h

      turned : (i : Instruction) (op : Op) (t : Turn)
          → LeavesBy [] starts p (Does i op) t e
          → IsIn m (nexts e)
          → (q : Place) × (slice_get starts m ≡ Some q)
      turned i op GoesOn h is = jump_start e (Some (next_place i p.index)) h is
      turned i op Returns h is = absurd (none_on e m (inl h) is)
      turned i op Stops h is = absurd (none_on e m (inr h) is)
      turned i op (Branches to) h is = jump_start e (branch_place i p.index to) h is
      turned i op (Tests to) h is = test_start e (branch_place i p.index to) (Some (next_place i p.index)) h is
      turned i op Switches h is = absurd h

      by : (here : Standing)
          → LeavesBy [] starts p here (turn_in l here) e
          → IsIn m (nexts e)
          → (q : Place) × (slice_get starts m ≡ Some q)
      by Nothing h is = absurd (none_on e m (inr h) is)
      by (Passes i) h is = jump_start e (Some (next_instruction i)) h is
      by (Does i op) h is = turned i op (turn_of l op.code op.inputs) h is
