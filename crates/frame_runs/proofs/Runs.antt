-- In every run over any memory each fact holds at its place, until the run ends.
use Rattle.std.proofs.Common.{◌≡◌, ℕ, zero, suc, ◌+◌, ◌%◌, ◌<◌, List, [], Option, Some, None, refl, sym, ap, ◌∙◌, subst, inl, arith}
use Rattle.std.proofs.Math.Nat.{mod-eq_of_lt}
use Rattle.machine.specs.Trace.{End}
use Rattle.machine.specs.Machine.{after}
use Rattle.pcode_model.specs.declared.listing.Place.{Place}
use Rattle.pcode_model.specs.declared.listing.Listing.{Listing}
use Rattle.pcode_model.specs.declared.tables.TableAt.{TableAt}
use Rattle.pcode_model.specs.declared.flow.FlowWhy.TheVariants.{NoTable}
use Rattle.pcode_model.specs.declared.flow.Turn.TheVariants.{Switches}
use Rattle.pcode_model.specs.Rules.{first_bad}
use Rattle.pcode_model.specs.WellFormed.{IsWellFormed}
use Rattle.pcode_model.specs.Places.{Standing, Nothing, Passes, Does, standing}
use Rattle.pcode_model.specs.Memory.{Acts, Frame, Bytes}
use Rattle.pcode_model.specs.World.{Entry, unless_over}
use Rattle.pcode_model.specs.Step.{State, first_place, local_word, stack0, stack_word, step, step_at}
use Rattle.pcode_model.specs.Flow.{IsIn, Fails, First, LeadsTo, Next, NoFault, Reached, standing_ways, turn_at, turn_in, turn_of, turn_ways}
use Rattle.frame_facts.specs.Facts.{offsets}
use Rattle.frame_runs.specs.Laws.{FactsHold}
use Rattle.frame_runs.proofs.Steps.{at_holds}
use Rattle.frame_runs.proofs.Edges.{step_leads}

-- what holds of a place and of register and unique bytes at each step: the place is reached, and its facts hold
pub record Stands (l : Listing) (t : List TableAt) (entry : ℕ) (p : Place) (b : Bytes) : Type 0 where
  pub reached : Reached l t p
  pub facts : FactsHold l t entry p b

module _
    (l : Listing)
    (t : List TableAt)
    (read : IsWellFormed l)
    (good : first_bad l ≡ None)
    (sound : NoFault l t)
    (none : (p : Place) → Reached l t p → turn_at l p ≡ Switches → ⊥)
    (entry : ℕ)
  where
    -- After a step along an edge the facts of the place that it leads to hold.
    holds_next : {M : Type 0} (m : Acts M) (f : Frame) (s : State M)
        → Stands l t entry s.at s.local
        → (let u = step_at m l f (standing l s.at) s in u.world.over ≡ None → Stands l t entry u.at u.local)
    holds_next m f s h on =
        let u = step_at m l f (standing l s.at) s in
        let edge : LeadsTo l t s.at u.at = step_leads m l t f s (standing l s.at) refl
        (λ why x. sound s.at why (h.reached, inl x)) (none s.at h.reached) on in
        record {
          reached = Next s.at u.at h.reached edge;
          facts = λ v c fact.
              let g = fact.0 in
              let sup = fact.1.1 in
              at_holds m l read good f entry (g s.at) (λ w b is. sup.can s.at w b is) s
              (λ w b is. h.facts w b (g, (is, sup))) (standing l s.at) refl v c on (sup.can u.at v c fact.1.0)
              (sup.edge s.at u.at v c h.reached edge fact.1.0);
        }

    -- a state that has ended says nothing
    StandsYet : {M : Type 0} → State M → Type 0
    StandsYet s = s.world.over ≡ None → Stands l t entry s.at s.local

    pub step_stands : {M : Type 0} (m : Acts M) (f : Frame) (s : State M)
        → (s.world.over ≡ None → Stands l t entry s.at s.local)
        → (let u = step m l f s in u.world.over ≡ None → Stands l t entry u.at u.local)
    step_stands {M} m f s h = by s.world.over refl where
      by : (o : Option End)
          → s.world.over ≡ o
          → (let u : State M = unless_over o s (step_at m l f (standing l s.at) s) in
          u.world.over ≡ None → Stands l t entry u.at u.local)
      by None e on = holds_next m f s (h e) on
      by (Some x) e on = h on

    pub run_stands : {M : Type 0} (m : Acts M) (f : Frame) (n : ℕ) (s : State M)
        → (s.world.over ≡ None → Stands l t entry s.at s.local)
        → (let u = after (step m l f) n s in u.world.over ≡ None → Stands l t entry u.at u.local)
    run_stands m f zero s h = h
    run_stands m f (suc n) s h = run_stands m f n (step m l f s) (step_stands m f s h)

-- at the start the stack pointer holds its entry word
pub start_stands : (l : Listing) (t : List TableAt) (e : Entry)
    → stack0 l e < offsets l
    → Stands l t (stack0 l e) (first_place l) e.bytes
start_stands l t e low = record {
  reached = First;
  facts = λ v c fact.
      let first = (fact.1.1).first v c fact.1.0 in
      let word : local_word l v e.bytes ≡ stack0 l e = ap (λ o. stack_word l o e.bytes) (sym first.0) in
      let zero_more : stack0 l e + c ≡ stack0 l e = omega (arith, first.1) in
      word ∙ sym (mod-eq_of_lt low) ∙ ap (λ z. z % offsets l) (sym zero_more);
}

-- without tables no reached place is a BRANCHIND, since that would be a fault
pub never_switches : (l : Listing) → NoFault l [] → (p : Place) → Reached l [] p → turn_at l p ≡ Switches → ⊥
never_switches l sound p reached e = by (standing l p) refl e where
  by : (here : Standing) → standing l p ≡ here → turn_in l here ≡ Switches → ⊥
  by Nothing is e = absurd (cc)
  by (Passes i) is e = absurd (cc)
  by (Does i op) is e =
      let P : Standing → Type 0 = λ x. IsIn (Fails NoTable) (standing_ways l [] p x) in
      let here : IsIn (Fails NoTable) (turn_ways l [] p i (turn_of l op.code op.inputs)) =
      subst (λ x. IsIn (Fails NoTable) (turn_ways l [] p i x)) (sym e) (inl refl) in
      sound p NoTable (reached, inl (subst P (sym is) here))
