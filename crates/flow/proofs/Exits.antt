-- How a block is left at a place, by the edges of the code.
use Rattle.std.proofs.Common.{◌≡◌, ℕ, suc, ◌<◌, Bool, true, false, List, [], ◌∷◌, length, refl, sym, ap, ◌∙◌, subst, inl, inr, arith, Option, Some, None}
use Rattle.std.proofs.lemmas.Bool.{false≢true}
use Rattle.pcode_model.specs.declared.listing.Instruction.{Instruction}
use Rattle.pcode_model.specs.declared.listing.Place.{Place}
use Rattle.pcode_model.specs.declared.listing.Varnode.{Varnode}
use Rattle.pcode_model.specs.declared.listing.Listing.{Listing}
use Rattle.pcode_model.specs.declared.flow.FlowWhy.{FlowWhy}
use Rattle.pcode_model.specs.declared.flow.FlowWhy.TheVariants.{FallsOff}
use Rattle.pcode_model.specs.declared.flow.Turn.{Turn}
use Rattle.pcode_model.specs.declared.flow.Turn.TheVariants.{GoesOn, Returns, Stops, Branches, Tests, Switches}
use Rattle.pcode_model.specs.declared.flow.Exit.{Exit}
use Rattle.pcode_model.specs.declared.flow.Exit.TheVariants.{Jump, Test}
use Rattle.pcode_model.specs.Places.{instruction_at, standing, next_place, branch_place}
use Rattle.pcode_model.specs.Flow.{IsIn, Rising, AreApart, Way, Leads, Fails, stands, way_to, branch_way, turn_ways, ways, turn_at, turn_in, next_in, branch_in, is_branch, LeadsTo, Reached, NoFault, Led, IsStart, LeavesBy, Leaves, GoesOnTo}
use Rattle.flow.specs.declared.edges.Edge.{Edge}
use Rattle.flow.specs.declared.edges.Edge.TheVariants.{To, Faulty}
use Rattle.flow.specs.declared.edges.Leaving.TheVariants.{One, Two}
use Rattle.flow.specs.Slots.{at, Marked, ArePlaces, MarksStarts, picked}
use Rattle.flow.specs.Edges.{AllMean, EdgeInside}
use Rattle.flow.specs.Blocks.{ExitOf, EndsBy, EdgeStarts, EdgeMarked, JumpOf, TestOf}
use Rattle.flow.proofs.Listed.{owner_of}
use Rattle.flow.proofs.Meaning.{ways_by, next_here, here, Here, Passing, Doing}
use Rattle.flow.proofs.Reaching.{at_once}
use Rattle.flow.proofs.Marking.{picked_in, in_picked, rising_picked}
use Rattle.flow.proofs.Adjacent.{lead_is, lead_next, branch_is, adjacent}

-- ---- which places are starts

marked_start : (ps : List Place) (begins : List Bool) (starts : List Place) (t : ℕ)
    → starts ≡ picked begins ps (length ps)
    → t < length ps
    → Marked begins t
    → IsIn (at ps t) starts
marked_start ps begins starts t e lt m =
    let P : List Place → Type 0 = λ x. IsIn (at ps t) x in
    subst P (sym e) (in_picked begins ps (length ps) t lt m)

start_marked : (ps : List Place) (begins : List Bool) (starts : List Place) (t : ℕ)
    → Rising ps
    → starts ≡ picked begins ps (length ps)
    → t < length ps
    → IsIn (at ps t) starts
    → Marked begins t
start_marked ps begins starts t r e lt h =
    let P : List Place → Type 0 = λ x. IsIn (at ps t) x in
    let x = picked_in begins ps (length ps) (at ps t) (subst P e h) in
    let Q : ℕ → Type 0 = λ k. Marked begins k in
    subst Q (at_once ps r x.0 t x.1.0 lt (sym x.1.1.1)) x.1.1.0

one_leads : (l : Listing) (ps : List Place) (p : Place) (t : ℕ)
    → AllMean ps (One (To t)) (ways l [] p)
    → (t < length ps) × LeadsTo l [] p (at ps t)
one_leads l ps p t m =
    let P : List Way → Type 0 = λ ws. IsIn (Leads (at ps t)) ws in
    (m.1.0.0, subst P (sym m.1.1) (inl (sym m.1.0.1)))

pub member_marked : (ps : List Place) (begins : List Bool) (starts : List Place) (edge : Edge)
    → starts ≡ picked begins ps (length ps)
    → EdgeInside (length ps) edge
    → EdgeMarked begins edge
    → EdgeStarts ps starts edge
member_marked ps begins starts (To t) e lt m = marked_start ps begins starts t e lt m
member_marked ps begins starts (Faulty why) e lt m = tt

two_shape : (l : Listing) (ps : List Place) (p : Place) (e f : Edge)
    → stands l p ≡ true
    → AllMean ps (Two e f) (ways l [] p)
    → (to : Varnode) × (turn_at l p ≡ Tests to)
two_shape l ps p e f s m = by (turn_at l p) refl where
  o : Instruction
  o = (owner_of l p s).owner

  same : (t : Turn) → turn_at l p ≡ t → m.0 ∷ m.1.1.0 ∷ [] ≡ turn_ways l [] p o t
  same t e = sym m.1.1.1.1 ∙ ways_by l p o t (owner_of l p s).found s e

  by : (t : Turn) → turn_at l p ≡ t → (to : Varnode) × (turn_at l p ≡ Tests to)
  by GoesOn e = let x = same GoesOn e in absurd (cc)
  by Returns e = let x = same Returns e in absurd (cc)
  by Stops e = let x = same Stops e in absurd (cc)
  by (Branches to) e = let x = same (Branches to) e in absurd (cc)
  by (Tests to) e = (to, e)
  by Switches e = let x = same Switches e in absurd (cc)

module _ (l : Listing) (ps : List Place) (begins : List Bool) (starts : List Place) where
  pub rising_starts : ArePlaces l ps
      → starts ≡ picked begins ps (length ps)
      → Rising starts
  rising_starts a e =
      let P : List Place → Type 0 = λ x. Rising x in
      subst P (sym e) (rising_picked begins ps (length ps) a.rising (omega arith))

  led_start : (p : Place) (t : ℕ)
      → MarksStarts l [] ps begins
      → starts ≡ picked begins ps (length ps)
      → Reached l [] p
      → is_branch (turn_at l p) ≡ true
      → t < length ps
      → LeadsTo l [] p (at ps t)
      → IsIn (at ps t) starts
  led_start p t m e r b lt h =
      marked_start ps begins starts t e lt ((m.each t lt).1 (Led p (at ps t) r b h))

  pub member_one : (p : Place) (edge : Edge)
      → MarksStarts l [] ps begins
      → starts ≡ picked begins ps (length ps)
      → Reached l [] p
      → is_branch (turn_at l p) ≡ true
      → AllMean ps (One edge) (ways l [] p)
      → EdgeStarts ps starts edge
  member_one p (To t) m e r b a =
      let x = one_leads l ps p t a in
      led_start p t m e r b x.0 x.1
  member_one p (Faulty why) m e r b a = tt

  pub members_two : (p : Place) (e f : Edge)
      → stands l p ≡ true
      → MarksStarts l [] ps begins
      → starts ≡ picked begins ps (length ps)
      → Reached l [] p
      → AllMean ps (Two e f) (ways l [] p)
      → EdgeStarts ps starts e × EdgeStarts ps starts f
  members_two p e f s m same r a = (first e a, second e f a) where
    b : is_branch (turn_at l p) ≡ true
    b = ap is_branch (two_shape l ps p e f s a).1

    first : (e : Edge) → AllMean ps (Two e f) (ways l [] p) → EdgeStarts ps starts e
    first (Faulty why) a = tt
    first (To t) a =
        let P : List Way → Type 0 = λ ws. IsIn (Leads (at ps t)) ws in
        led_start p t m same r b a.1.0.0 (subst P (sym a.1.1.1.1) (inl (sym a.1.0.1)))

    second : (e f : Edge) → AllMean ps (Two e f) (ways l [] p) → EdgeStarts ps starts f
    second e (Faulty why) a = tt
    second e (To t) a =
        let P : List Way → Type 0 = λ ws. IsIn (Leads (at ps t)) ws in
        led_start p t m same r b a.1.1.1.0.0 (subst P (sym a.1.1.1.1) (inr (inl (sym a.1.1.1.0.1))))

-- ---- exits

leaves_by : (l : Listing) (starts : List Place) (p : Place) (t : Turn) (e : Exit)
    → turn_at l p ≡ t
    → LeavesBy [] starts p (standing l p) t e
    → Leaves l [] starts p e
leaves_by l starts p t e same h =
    let P : Turn → Type 0 = λ x. LeavesBy [] starts p (standing l p) x e in
    subst P (sym same) h

pub ends_leave : (l : Listing) (starts : List Place) (p : Place) (e : Exit)
    → stands l p ≡ true
    → ways l [] p ≡ []
    → EndsBy (turn_at l p) e
    → Leaves l [] starts p e
ends_leave l starts p e s none h = by (turn_at l p) refl where
  o : Instruction
  o = (owner_of l p s).owner

  same : (t : Turn) → turn_at l p ≡ t → [] ≡ turn_ways l [] p o t
  same t k = sym none ∙ ways_by l p o t (owner_of l p s).found s k

  ends : (t : Turn) → turn_at l p ≡ t → EndsBy t e
  ends t k = let P : Turn → Type 0 = λ x. EndsBy x e in subst P k h

  by : (t : Turn) → turn_at l p ≡ t → Leaves l [] starts p e
  by GoesOn k = let x = same GoesOn k in absurd (cc)
  by Returns k = leaves_by l starts p Returns e k (ends Returns k)
  by Stops k = leaves_by l starts p Stops e k (ends Stops k)
  by (Branches to) k = let x = same (Branches to) k in absurd (cc)
  by (Tests to) k = let x = same (Tests to) k in absurd (cc)
  by Switches k = let x = same Switches k in absurd (cc)

-- only an op branches
branch_here : (l : Listing) (p : Place) (i : Instruction) (to : Varnode)
    → instruction_at l p.address ≡ Some i
    → stands l p ≡ true
    → (turn_at l p ≡ GoesOn → ⊥)
    → branch_in (standing l p) p.index to ≡ branch_place i p.index to
branch_here l p i to found s not = by (here l p i found s) where
  by : Here l p i → branch_in (standing l p) p.index to ≡ branch_place i p.index to
  by (Passing e none) = absurd (not (ap (λ x. turn_in l x) e))
  by (Doing op e at) = ap (λ x. branch_in x p.index to) e

faulty_way : (l : Listing) (p : Place) (why : FlowWhy)
    → NoFault l []
    → Reached l [] p
    → IsIn (Fails why) (ways l [] p)
    → ⊥
faulty_way l p why sound r h = sound p why (r, inl h)

pub one_leaves : (l : Listing) (ps : List Place) (starts : List Place) (s : ℕ) (edge : Edge) (r : Option Exit)
    → stands l (at ps s) ≡ true
    → NoFault l []
    → Reached l [] (at ps s)
    → AllMean ps (One edge) (ways l [] (at ps s))
    → JumpOf ps starts edge r
    → ExitOf l starts ps s r
one_leaves l ps starts s (Faulty why) r h sound reached m j =
    let P : List Way → Type 0 = λ ws. IsIn (Fails why) ws in
    absurd (faulty_way l (at ps s) why sound reached (subst P (sym m.1.1) (inl (sym m.1.0))))
one_leaves l ps starts s (To t) r h sound reached m j =
    let P : Option Exit → Type 0 = λ x. ExitOf l starts ps s x in
    subst P (sym j.1.0) (by (turn_at l p) refl) where
      p : Place
      p = at ps s

      o : Instruction
      o = (owner_of l p h).owner

      same : (t' : Turn) → turn_at l p ≡ t' → Leads (at ps t) ∷ [] ≡ turn_ways l [] p o t'
      same t' k = ap (λ w. w ∷ []) (sym m.1.0.1) ∙ (sym m.1.1 ∙ ways_by l p o t' (owner_of l p h).found h k)

      head : (v w : Way) → v ∷ [] ≡ w ∷ [] → v ≡ w
      head v w e = cc

      not_on : (t' : Turn) → turn_at l p ≡ t' → is_branch t' ≡ true → turn_at l p ≡ GoesOn → ⊥
      not_on t' k b e = false≢true (ap is_branch (sym e ∙ k) ∙ b)

      by : (t' : Turn) → turn_at l p ≡ t' → Leaves l [] starts p (Jump j.0)
      by GoesOn k =
          leaves_by l starts p GoesOn (Jump j.0) k
          (at ps t, (lead_next l p (at ps t) h k (one_leads l ps p t m).1, j.1.1))
      by Returns k = let x = same Returns k in absurd (cc)
      by Stops k = let x = same Stops k in absurd (cc)
      by (Branches to) k =
          let x = head (Leads (at ps t)) (branch_way l o p.index to) (same (Branches to) k) in
          leaves_by l starts p (Branches to) (Jump j.0) k (
            at ps t,
            (
              branch_here l p o to (owner_of l p h).found h (not_on (Branches to) k refl)
                  ∙ branch_is l o p.index to (at ps t) x,
              j.1.1,
            ),
          )
      by (Tests to) k = let x = same (Tests to) k in absurd (cc)
      by Switches k = let x = same Switches k in absurd (cc)

pub one_goes_on : (l : Listing) (ps : List Place) (begins : List Bool) (starts : List Place) (s : ℕ) (edge : Edge)
    → AreApart l.code
    → ArePlaces l ps
    → starts ≡ picked begins ps (length ps)
    → s < length ps
    → stands l (at ps s) ≡ true
    → NoFault l []
    → Reached l [] (at ps s)
    → AllMean ps (One edge) (ways l [] (at ps s))
    → is_branch (turn_at l (at ps s)) ≡ false
    → (EdgeMarked begins edge → ⊥)
    → ExitOf l starts ps s None
one_goes_on l ps begins starts s (Faulty why) a all e lt h sound reached m b not =
    let P : List Way → Type 0 = λ ws. IsIn (Fails why) ws in
    absurd (faulty_way l (at ps s) why sound reached (subst P (sym m.1.1) (inl (sym m.1.0))))
one_goes_on l ps begins starts s (To t) a all e lt h sound reached m b not = by (turn_at l p) refl where
  p : Place
  p = at ps s

  o : Instruction
  o = (owner_of l p h).owner

  same : (t' : Turn) → turn_at l p ≡ t' → Leads (at ps t) ∷ [] ≡ turn_ways l [] p o t'
  same t' k = ap (λ w. w ∷ []) (sym m.1.0.1) ∙ (sym m.1.1 ∙ ways_by l p o t' (owner_of l p h).found h k)

  on : turn_at l p ≡ GoesOn → ExitOf l starts ps s None
  on k =
      let x = one_leads l ps p t m in
      let next = lead_next l p (at ps t) h k x.1 in
      let step : suc s ≡ t = adjacent l ps a all s t lt x.0 next in
      let P : ℕ → Type 0 = λ n. (n < length ps) × GoesOnTo l starts p (at ps n) in
      subst P (sym step) (
        x.0,
        record { goes_on = k; next = next; inside = λ i. not (start_marked ps begins starts t all.rising e x.0 i) },
      )

  by : (t' : Turn) → turn_at l p ≡ t' → ExitOf l starts ps s None
  by GoesOn k = on k
  by Returns k = let x = same Returns k in absurd (cc)
  by Stops k = let x = same Stops k in absurd (cc)
  by (Branches to) k = absurd (false≢true (sym b ∙ ap is_branch k))
  by (Tests to) k = absurd (false≢true (sym b ∙ ap is_branch k))
  by Switches k = absurd (false≢true (sym b ∙ ap is_branch k))

pub two_leave : (l : Listing) (ps : List Place) (starts : List Place) (s : ℕ) (e f : Edge) (r : Option Exit)
    → stands l (at ps s) ≡ true
    → NoFault l []
    → Reached l [] (at ps s)
    → AllMean ps (Two e f) (ways l [] (at ps s))
    → TestOf ps starts e f r
    → ExitOf l starts ps s r
two_leave l ps starts s (Faulty why) f r h sound reached m j =
    let P : List Way → Type 0 = λ ws. IsIn (Fails why) ws in
    absurd (faulty_way l (at ps s) why sound reached (subst P (sym m.1.1.1.1) (inl (sym m.1.0))))
two_leave l ps starts s (To t) (Faulty why) r h sound reached m j =
    let P : List Way → Type 0 = λ ws. IsIn (Fails why) ws in
    absurd (faulty_way l (at ps s) why sound reached (subst P (sym m.1.1.1.1) (inr (inl (sym m.1.1.1.0)))))
two_leave l ps starts s (To t) (To u) r h sound reached m j =
    let P : Option Exit → Type 0 = λ x. ExitOf l starts ps s x in
    let shape = two_shape l ps p (To t) (To u) h m in
    subst P (sym j.1.1.0) (leaves_by l starts p (Tests shape.0) (Test j.0 j.1.0) shape.1
    (taken shape.0 shape.1, other shape.0 shape.1)) where
      p : Place
      p = at ps s

      o : Instruction
      o = (owner_of l p h).owner

      same : (to : Varnode)
          → turn_at l p ≡ Tests to
          → Leads (at ps t) ∷ Leads (at ps u) ∷ []
          ≡ branch_way l o p.index to ∷ way_to l FallsOff (next_place o p.index) ∷ []
      same to k =
          ap (λ w. w ∷ Leads (at ps u) ∷ []) (sym m.1.0.1)
          ∙ (ap (λ w. m.0 ∷ w ∷ []) (sym m.1.1.1.0.1)
          ∙ (sym m.1.1.1.1 ∙ ways_by l p o (Tests to) (owner_of l p h).found h k))

      first : (a b v w : Way) → a ∷ b ∷ [] ≡ v ∷ w ∷ [] → a ≡ v
      first a b v w e = cc

      second : (a b v w : Way) → a ∷ b ∷ [] ≡ v ∷ w ∷ [] → b ≡ w
      second a b v w e = cc

      never : (to : Varnode) → Tests to ≡ GoesOn → ⊥
      never to e = cc

      taken : (to : Varnode) → turn_at l p ≡ Tests to → IsStart starts (branch_in (standing l p) p.index to) j.0
      taken to k = (
        at ps t,
        (
          branch_here l p o to (owner_of l p h).found h (λ e. never to (sym k ∙ e))
              ∙ branch_is l o p.index to (at ps t) (first _ _ _ _ (same to k)),
          j.1.1.1.0,
        ),
      )

      other : (to : Varnode) → turn_at l p ≡ Tests to → IsStart starts (next_in (standing l p) p.index) j.1.0
      other to k = (
        at ps u,
        (
          next_here l p o (owner_of l p h).found h
              ∙ ap Some (sym (lead_is l FallsOff (next_place o p.index) (at ps u) (second _ _ _ _ (same to k)))),
          j.1.1.1.1,
        ),
      )
