-- Each reached place goes on in its block, or has an exit.
use Rattle.std.proofs.Common.{◌≡◌, ◌∙◌, ℕ, ◌<◌, Bool, true, false, List, [], ◌∷◌, length, ap, refl, sym, subst, inl, inr}
use Rattle.std.specs.Prelude.{Option, Some, None, slice_get}
use Rattle.std.specs.List.{slice_index_or}
use Rattle.std.proofs.lemmas.Bool.{false≢true}
use Rattle.pcode_model.specs.declared.flow.Exit.{Exit}
use Rattle.pcode_model.specs.declared.flow.Exit.TheVariants.{Jump, Return, Stop, Test}
use Rattle.pcode_model.specs.declared.flow.FlowWhy.TheVariants.{NoTable}
use Rattle.pcode_model.specs.declared.flow.Turn.{Turn}
use Rattle.pcode_model.specs.declared.flow.Turn.TheVariants.{Branches, GoesOn, Returns, Stops, Switches, Tests}
use Rattle.pcode_model.specs.declared.listing.Instruction.{Instruction}
use Rattle.pcode_model.specs.declared.listing.Listing.{Listing}
use Rattle.pcode_model.specs.declared.listing.Place.{Place}
use Rattle.pcode_model.specs.Flow.{Fails, IsIn, Leads, NoFault, Reached, Way, is_branch, stands, turn_at, turn_ways, ways}
use Rattle.flow.specs.Blocks.{EndsBy, ExitOf}
use Rattle.flow.specs.declared.edges.Edge.TheVariants.{To}
use Rattle.flow.specs.declared.edges.Leaving.TheVariants.{One, Two}
use Rattle.flow.specs.Edges.{AllMean, Means}
use Rattle.flow.specs.Slots.{Marked, at, picked}
use Rattle.flow.proofs.Exits.{ends_leave, member_one, members_two, one_goes_on, one_leaves, two_leave}
use Rattle.flow.proofs.Listed.{Owned, owner_of}
use Rattle.flow.proofs.Marking.{in_picked}
use Rattle.flow.proofs.Meaning.{ways_by}
use Rattle.flow.proofs.Order.{at_in, in_at, slice_at}
use Rattle.flow.proofs.Reaching.{lead_stands}
use Rattle.flow.proofs.Scanning.{Known}

module _
    (l : Listing)
    (ps : List Place)
    (reached begins : List Bool)
    (starts : List Place)
    (k : Known l ps reached begins starts)
    (sound : NoFault l [])
    (s : ℕ)
    (inside : s < length ps)
    (marked : Marked reached s)
  where
    abbrev p : Place
    p = at ps s

    here : Reached l [] p
    here = (k.reaches.each s inside).0 marked

    stands_here : stands l p ≡ true
    stands_here = (k.places.each p).0 (at_in ps s inside)

    owned : Owned l p
    owned = owner_of l p stands_here

    ways_of : (t : Turn) → turn_at l p ≡ t → ways l [] p ≡ turn_ways l [] p owned.owner t
    ways_of t is = ways_by l p owned.owner t owned.found stands_here is

    -- the exit, or that the block goes on
    abbrev HasExit : Type 0
    HasExit = (e : Option Exit) × ExitOf l starts ps s e

    -- a way leads to the place of some number
    way_leads : (w : Way) → IsIn w (ways l [] p) → (t : ℕ) × Means ps (To t) w
    way_leads (Fails why) is = absurd (sound p why (here, inl is))
    way_leads (Leads q) is =
        let x = in_at q ps ((k.places.each q).1 (lead_stands l p q is)) in
        (x.0, (x.1.0, ap Leads (sym x.1.1)))

    one_edge : (w : Way) → ways l [] p ≡ w ∷ [] → (t : ℕ) × AllMean ps (One (To t)) (ways l [] p)
    one_edge w e =
        let m = way_leads w (subst (λ (ws : List Way). IsIn w ws) (sym e) (inl refl)) in
        (m.0, (w, (m.1, e)))

    number_of : (q : Place) → IsIn q starts → (n : ℕ) × (slice_get starts n ≡ Some q)
    number_of q is = let x = in_at q starts is in (x.0, slice_at starts x.0 x.1.0 ∙ ap Some x.1.1)

    jumps : (t : ℕ) → AllMean ps (One (To t)) (ways l [] p) → IsIn (at ps t) starts → HasExit
    jumps t m is =
        let n = number_of (at ps t) is in
        (Some (Jump n.0), one_leaves l ps starts s (To t) (Some (Jump n.0)) stands_here sound here m (n.0, (refl, n.1)))

    goes_on : turn_at l p ≡ GoesOn
        → (t : ℕ)
        → AllMean ps (One (To t)) (ways l [] p)
        → (b : Bool)
        → slice_index_or begins t false ≡ b
        → HasExit
    goes_on turn t m true e =
        jumps t m (subst (λ (qs : List Place). IsIn (at ps t) qs) (sym k.same)
        (in_picked begins ps (length ps) t m.1.0.0 e))
    goes_on turn t m false e = (
      None,
      one_goes_on l ps begins starts s (To t) k.apart k.places k.same inside stands_here sound here m (ap is_branch turn)
          (λ h. false≢true (sym e ∙ h)),
    )

    branches : is_branch (turn_at l p) ≡ true → (t : ℕ) → AllMean ps (One (To t)) (ways l [] p) → HasExit
    branches turn t m = jumps t m (member_one l ps begins starts p (To t) k.begin k.same here turn m)

    tests : (v w : Way) → ways l [] p ≡ v ∷ w ∷ [] → HasExit
    tests v w e =
        let a = way_leads v (subst (λ (ws : List Way). IsIn v ws) (sym e) (inl refl)) in
        let b = way_leads w (subst (λ (ws : List Way). IsIn w ws) (sym e) (inr (inl refl))) in
        let m : AllMean ps (Two (To a.0) (To b.0)) (ways l [] p) = (v, (a.1, (w, (b.1, e)))) in
        let is = members_two l ps begins starts p (To a.0) (To b.0) stands_here k.begin k.same here m in
        let x = number_of (at ps a.0) is.0 in
        let y = number_of (at ps b.0) is.1 in (
          Some (Test x.0 y.0),
          two_leave l ps starts s (To a.0) (To b.0) (Some (Test x.0 y.0)) stands_here sound here m
              (x.0, (y.0, (refl, (x.1, y.1)))),
        )

    ends : (e : Exit) → ways l [] p ≡ [] → EndsBy (turn_at l p) e → HasExit
    ends e none by = (Some e, ends_leave l starts p e stands_here none by)

    by_turn : (t : Turn) → turn_at l p ≡ t → HasExit
    by_turn GoesOn is = let m = one_edge _ (ways_of GoesOn is) in goes_on is m.0 m.1 (slice_index_or begins m.0 false) refl
    by_turn Returns is = ends Return (ways_of Returns is) (subst (λ (t : Turn). EndsBy t Return) (sym is) refl)
    by_turn Stops is = ends Stop (ways_of Stops is) (subst (λ (t : Turn). EndsBy t Stop) (sym is) refl)
    by_turn (Branches to) is = let m = one_edge _ (ways_of (Branches to) is) in branches (ap is_branch is) m.0 m.1
    by_turn (Tests to) is = tests _ _ (ways_of (Tests to) is)
    by_turn Switches is =
        absurd (sound p NoTable
        (here, inl (subst (λ (ws : List Way). IsIn (Fails NoTable) ws) (sym (ways_of Switches is)) (inl refl))))

    -- The place is left by an exit, or its block goes on with the next place.
    pub exit_at : (e : Option Exit) × ExitOf l starts ps s e
    exit_at = by_turn (turn_at l p) refl
