-- The fault that counts, among the faults of places and of their ways.
use Rattle.std.proofs.Common.{◌≡◌, ℕ, ◌+◌, ◌<◌, ◌≤◌, Bool, List, [], ◌∷◌, length, refl, sym, ap, ◌∙◌, subst, ◌⊎◌, inl, inr, ⊎_elim, arith, Option, Some, None}
use Rattle.std.proofs.lemmas.Bool.{cases_lt, cases_order}
use Rattle.std.proofs.lemmas.Option.{same_Some}
use Rattle.pcode_model.specs.declared.listing.Place.{Place}
use Rattle.pcode_model.specs.declared.listing.Listing.{Listing}
use Rattle.pcode_model.specs.declared.flow.FlowWhy.{FlowWhy}
use Rattle.pcode_model.specs.Flow.{IsIn, IsBefore, Way, Leads, Fails, ways, rank, FaultAt, NoFault, FirstFault}
use Rattle.flow.specs.declared.edges.Edge.{Edge}
use Rattle.flow.specs.declared.edges.Edge.TheVariants.{To, Faulty}
use Rattle.flow.specs.declared.edges.Leaving.{Leaving}
use Rattle.flow.specs.declared.edges.Leaving.TheVariants.{Two}
use Rattle.flow.specs.Slots.{at, Marked, ArePlaces, MarksReached}
use Rattle.flow.specs.Edges.{Means, AllMean, fault_of, IsLeastFault, IsLesser}
use Rattle.flow.proofs.Order.{at_before, in_at}

edge_fault : (ps : List Place) (e : Edge) (w : Way) (why : FlowWhy)
    → Means ps e w
    → Fails why ≡ w
    → fault_of e ≡ Some why
edge_fault ps (To s) w why m h = let f : Fails why ≡ Leads (at ps s) = h ∙ m.1 in absurd (cc)
edge_fault ps (Faulty x) w why m h = ap Some (same x why (sym m ∙ sym h)) where
  same : (a b : FlowWhy) → Fails a ≡ Fails b → a ≡ b
  same a b e = cc

fault_edge : (ps : List Place) (e : Edge) (w : Way) (why : FlowWhy)
    → Means ps e w
    → fault_of e ≡ Some why
    → Fails why ≡ w
fault_edge ps (To s) w why m h = absurd (cc)
fault_edge ps (Faulty x) w why m h = ap Fails (same x why h) ∙ sym m where
  same : (a b : FlowWhy) → Some a ≡ Some b → b ≡ a
  same a b e = cc

never : (a : FlowWhy) → None ≡ Some a → ⊥
never a e = cc

ranked : (a b : FlowWhy) → Some a ≡ Some b → rank a ≤ rank b
ranked a b e = omega (arith, ap rank (same_Some a b e))

least_of : (a b r : Option FlowWhy) (ws : List Way)
    → IsLesser a b r
    → ((why : FlowWhy) → IsIn (Fails why) ws → (a ≡ Some why) ⊎ (b ≡ Some why))
    → ((why : FlowWhy) → (a ≡ Some why) ⊎ (b ≡ Some why) → IsIn (Fails why) ws)
    → IsLeastFault ws r
least_of None None r ws h into from =
    let P : Option FlowWhy → Type 0 = λ x. IsLeastFault ws x in
    subst P (sym h) (λ why k. ⊎_elim (λ e. never why e) (λ e. never why e) (into why k))
least_of None (Some y) r ws h into from =
    let P : Option FlowWhy → Type 0 = λ x. IsLeastFault ws x in
    subst P (sym h)
    (from y (inr refl), λ other k. ⊎_elim (λ e. absurd (never other e)) (λ e. ranked y other e) (into other k))
least_of (Some x) None r ws h into from =
    let P : Option FlowWhy → Type 0 = λ x. IsLeastFault ws x in
    subst P (sym h)
    (from x (inl refl), λ other k. ⊎_elim (λ e. ranked x other e) (λ e. absurd (never other e)) (into other k))
least_of (Some x) (Some y) r ws h into from =
    let P : Option FlowWhy → Type 0 = λ x. IsLeastFault ws x in
    ⊎_elim
    (λ k. subst P (sym k.0) (
      from x (inl refl),
      λ other j. ⊎_elim (λ e. ranked x other e) (λ e. omega (arith, k.1, ranked y other e)) (into other j),
    ))
    (λ k. subst P (sym k.0) (
      from y (inr refl),
      λ other j. ⊎_elim (λ e. omega (arith, k.1, ranked x other e)) (λ e. ranked y other e) (into other j),
    ))
    h

pub least_two : (e f : Edge) (r : Option FlowWhy) (edges : Leaving)
    → edges ≡ Two e f
    → IsLesser (fault_of e) (fault_of f) r
    → (ps : List Place) (ws : List Way)
    → AllMean ps edges ws
    → IsLeastFault ws r
least_two e f r edges same h ps ws m =
    let P : Leaving → Type 0 = λ x. AllMean ps x ws in
    let m' : AllMean ps (Two e f) ws = subst P same m in
    let Q : List Way → Type 0 = λ x. IsLeastFault x r in
    subst Q (sym m'.1.1.1.1)
    (least_of (fault_of e) (fault_of f) r (m'.0 ∷ m'.1.1.0 ∷ []) h
    (λ why k. ⊎_elim
    (λ a. inl (edge_fault ps e m'.0 why m'.1.0 a))
    (λ b. ⊎_elim (λ a. inr (edge_fault ps f m'.1.1.0 why m'.1.1.1.0 a)) (λ bad. absurd bad) b)
    k)
    (λ why k. ⊎_elim
    (λ a. inl (fault_edge ps e m'.0 why m'.1.0 a))
    (λ b. inr (inl (fault_edge ps f m'.1.1.0 why m'.1.1.1.0 b)))
    k))

-- ---- the loop over the places

pub no_fault_at : (l : Listing) (p : Place) → IsLeastFault (ways l [] p) None → (why : FlowWhy) → FaultAt l [] p why → ⊥
no_fault_at l p none why h = ⊎_elim (λ a. none why a) (λ b. b.1.1) h.1

pub first_here : (l : Listing) (ps : List Place) (flags : List Bool) (s : ℕ) (why : FlowWhy)
    → ArePlaces l ps
    → MarksReached l [] ps flags
    → s < length ps
    → Marked flags s
    → ((k : ℕ) (other : FlowWhy) → k < s → FaultAt l [] (at ps k) other → ⊥)
    → IsLeastFault (ways l [] (at ps s)) (Some why)
    → FirstFault l [] (at ps s) why
first_here l ps flags s why a f lt marked before least_here = record {
  here = ((f.each s lt).0 marked, inl least_here.0);
  least = λ q other h.
      let x = in_at q ps (f.all q h.0) in
      let P : Place → Type 0 = λ z. FaultAt l [] z other in
      let h' : FaultAt l [] (at ps x.0) other = subst P (sym x.1.1) h in
      ⊎_elim
      (λ same.
      let Q : ℕ → Type 0 = λ k. IsIn (Fails other) (ways l [] (at ps k)) in
      inr (
        ap (λ k. at ps k) (sym same) ∙ x.1.1,
        ⊎_elim (λ i. least_here.1 other (subst Q same i)) (λ b. absurd b.1.1) h'.1,
      ))
      (λ o. ⊎_elim
      (λ less. absurd (before x.0 other less h'))
      (λ more.
      let R : Place → Type 0 = λ z. IsBefore (at ps s) z in
      inl (subst R x.1.1 (at_before ps a.rising s x.0 more x.1.0)))
      o)
      (cases_order x.0 s);
}

pub none_here : (l : Listing) (ps : List Place) (flags : List Bool) (s : ℕ)
    → MarksReached l [] ps flags
    → length ps ≤ s
    → ((k : ℕ) (other : FlowWhy) → k < s → FaultAt l [] (at ps k) other → ⊥)
    → NoFault l []
none_here l ps flags s f le before p why h =
    let x = in_at p ps (f.all p h.0) in
    let P : Place → Type 0 = λ z. FaultAt l [] z why in
    before x.0 why (omega (arith, x.1.0)) (subst P (sym x.1.1) h)

pub one_more : (l : Listing) (ps : List Place) (s : ℕ)
    → ((k : ℕ) (other : FlowWhy) → k < s → FaultAt l [] (at ps k) other → ⊥)
    → ((other : FlowWhy) → FaultAt l [] (at ps s) other → ⊥)
    → (k : ℕ) (other : FlowWhy)
    → k < s + 1
    → FaultAt l [] (at ps k) other
    → ⊥
one_more l ps s before here k other lt h =
    let P : ℕ → Type 0 = λ j. FaultAt l [] (at ps j) other in
    ⊎_elim
    (λ less. before k other less h)
    (λ le. let same : k ≡ s = omega arith in here other (subst P same h))
    (cases_lt k s)
