-- The place after a place of the listing is the next slot.
use Rattle.std.proofs.Common.{◌≡◌, ℕ, suc, ◌+◌, ◌<◌, ◌≤◌, Bool, true, false, List, [], ◌∷◌, length, refl, sym, ap, ◌∙◌, subst, ◌⊎◌, inl, inr, ⊎_elim, arith, Option, Some, None}
use Rattle.std.specs.Prelude.{cond, ◌==◌}
use Rattle.std.proofs.lemmas.Bool.{cases_lt, cases_order}
use Rattle.pcode_model.specs.declared.listing.Op.{Op}
use Rattle.pcode_model.specs.declared.listing.Instruction.{Instruction}
use Rattle.pcode_model.specs.declared.listing.Place.{Place}
use Rattle.pcode_model.specs.declared.listing.Varnode.{Varnode}
use Rattle.pcode_model.specs.declared.listing.Listing.{Listing}
use Rattle.pcode_model.specs.declared.flow.FlowWhy.{FlowWhy}
use Rattle.pcode_model.specs.declared.flow.FlowWhy.TheVariants.{FallsOff, NoTarget}
use Rattle.pcode_model.specs.declared.flow.Turn.{Turn}
use Rattle.pcode_model.specs.declared.flow.Turn.TheVariants.{GoesOn, Returns, Stops, Branches, Tests, Switches}
use Rattle.pcode_model.specs.Places.{place, instruction_at, standing, next_place, relative_place, branch_place}
use Rattle.pcode_model.specs.Flow.{IsIn, IsBefore, AreApart, Way, Leads, Fails, stands, way_to, relative_way, branch_way, turn_ways, turn_at, next_in, LeadsTo, Reached, First, Next, BeginsBlock, Entry, Led, is_branch}
use Rattle.flow.specs.Slots.{at, ArePlaces, slots, slots_of}
use Rattle.flow.proofs.Order.{at_before, at_in, not_before, before_once}
use Rattle.instructions.proofs.Apart.{found_in, apart_in}
use Rattle.flow.proofs.Listed.{owner_of}
use Rattle.flow.proofs.Meaning.{ways_by, next_here, next_inside, next_outside}

pub some_same : {A : Type 0} {x y : A} → Some x ≡ Some y → x ≡ y
some_same e = cc

-- ---- what a way that leads to a place says

pub lead_same : (p q : Place) → Leads p ≡ Leads q → p ≡ q
lead_same p q e = cc

never_fails : (q : Place) (why : FlowWhy) → Leads q ≡ Fails why → ⊥
never_fails q why e = cc

pub lead_is : (l : Listing) (why : FlowWhy) (p q : Place) → Leads q ≡ way_to l why p → q ≡ p
lead_is l why p q e = by (stands l p) refl where
  by : (b : Bool) → stands l p ≡ b → q ≡ p
  by true h = lead_same q p (e ∙ ap (λ (b : Bool). cond b (Leads p) (Fails why)) h)
  by false h = absurd (never_fails q why (e ∙ ap (λ (b : Bool). cond b (Leads p) (Fails why)) h))

relative_is : (l : Listing) (o : Option Place) (q : Place) → Leads q ≡ relative_way l o → o ≡ Some q
relative_is l None q e = absurd (cc)
relative_is l (Some p) q e = ap Some (sym (lead_is l FallsOff p q e))

pub branch_is : (l : Listing) (i : Instruction) (n : ℕ) (to : Varnode) (q : Place)
    → Leads q ≡ branch_way l i n to
    → branch_place i n to ≡ Some q
branch_is l i n to q e = by (to.space == 0) refl where
  by : (b : Bool) → (to.space == 0) ≡ b → branch_place i n to ≡ Some q
  by true h =
      ap (λ (b : Bool). cond b (relative_place i n to) (Some (place to.offset 0))) h
      ∙ relative_is l (relative_place i n to) q (e
      ∙ ap (λ (b : Bool). cond b (relative_way l (relative_place i n to)) (way_to l NoTarget (place to.offset 0)))
      h)
  by false h =
      ap (λ (b : Bool). cond b (relative_place i n to) (Some (place to.offset 0))) h
      ∙ ap Some (sym (lead_is l NoTarget (place to.offset 0) q (e
      ∙ ap
      (λ (b : Bool).
      cond b (relative_way l (relative_place i n to)) (way_to l NoTarget (place to.offset 0)))
      h)))

-- where a place that goes on leads is the place after it
pub lead_next : (l : Listing) (p q : Place)
    → stands l p ≡ true
    → turn_at l p ≡ GoesOn
    → LeadsTo l [] p q
    → next_in (standing l p) p.index ≡ Some q
lead_next l p q s t h =
    let o = owner_of l p s in
    let P : List Way → Type 0 = λ ws. IsIn (Leads q) ws in
    ⊎_elim
    (λ e. next_here l p o.owner o.found s ∙ ap Some (sym (lead_is l FallsOff (next_place o.owner p.index) q e)))
    (λ bad. absurd bad)
    (subst P (ways_by l p o.owner GoesOn o.found s t) h)

pub next_lead : (l : Listing) (p q : Place)
    → stands l p ≡ true
    → turn_at l p ≡ GoesOn
    → next_in (standing l p) p.index ≡ Some q
    → stands l q ≡ true
    → LeadsTo l [] p q
next_lead l p q s t e h =
    let o = owner_of l p s in
    let P : List Way → Type 0 = λ ws. IsIn (Leads q) ws in
    let f : next_place o.owner p.index ≡ q = some_same (sym (next_here l p o.owner o.found s) ∙ e) in
    subst P (sym (ways_by l p o.owner GoesOn o.found s t))
    (inl (sym (ap (λ x. way_to l FallsOff x) f ∙ ap (λ (b : Bool). cond b (Leads q) (Fails FallsOff)) h)))

-- ---- the next slot

slots_under : (ops : List Op) (n : ℕ) → length ops ≤ n + 1 → slots_of ops ≤ n + 1
slots_under [] n le = omega arith
slots_under (op ∷ ops) n le = le

-- no place of the listing stands between a place and the one after it
between : (l : Listing) (p r : Place) (i : Instruction)
    → AreApart l.code
    → instruction_at l p.address ≡ Some i
    → p.index < slots i
    → stands l r ≡ true
    → IsBefore p r
    → IsBefore r (next_place i p.index)
    → ⊥
between l p r i a found lt s before after = ⊎_elim inside outside (cases_lt (p.index + 1) (length i.ops)) where
  inside : p.index + 1 < length i.ops → ⊥
  inside less =
      let own = found_in l.code p.address i found in
      let e = next_inside i p.index less in
      let P : Place → Type 0 = λ q. IsBefore r q in
      ⊎_elim
      (λ x. ⊎_elim (λ y. omega (arith, own.1)) (λ y. omega (arith, own.1)) (subst P e after))
      (λ x. ⊎_elim (λ y. omega (arith, own.1)) (λ y. omega (arith, own.1)) (subst P e after))
      before

  outside : length i.ops ≤ p.index + 1 → ⊥
  outside le =
      let own = found_in l.code p.address i found in
      let o = owner_of l r s in
      let other = found_in l.code r.address o.owner o.found in
      let e = next_outside i p.index le in
      let P : Place → Type 0 = λ q. IsBefore r q in
      let last : r.address < i.address + i.length =
      ⊎_elim (λ y. y) (λ y. absurd (omega (arith, y.1))) (subst P e after) in
      ⊎_elim
      (λ x.
      let apart = apart_in l.code a i o.owner own.0 other.0 (omega (arith, own.1, other.1)) in
      omega (arith, other.1, apart))
      (λ x.
      let same : o.owner ≡ i = some_same (sym o.found ∙ (ap (λ n. instruction_at l n) (sym x.0) ∙ found)) in
      let index : r.index < slots i = let Q : Instruction → Type 0 = λ j. r.index < slots j in subst Q same o.index in
      omega (arith, x.1, index, slots_under i.ops p.index le))
      before

after_it : (l : Listing) (p : Place) (i : Instruction)
    → AreApart l.code
    → instruction_at l p.address ≡ Some i
    → IsBefore p (next_place i p.index)
after_it l p i a found =
    let own = found_in l.code p.address i found in
    let P : Place → Type 0 = λ q. IsBefore p q in
    ⊎_elim
    (λ less. subst P (sym (next_inside i p.index less)) (inr (sym own.1, omega arith)))
    (λ le. subst P (sym (next_outside i p.index le)) (inl (omega (arith, own.1, positive l.code a own.0))))
    (cases_lt (p.index + 1) (length i.ops)) where
      positive : (code : List Instruction) → AreApart code → IsIn i code → 0 < i.length
      positive [] a h = absurd h
      positive (x ∷ []) a (inl e) = let Q : Instruction → Type 0 = λ y. 0 < y.length in subst Q (sym e) a
      positive (x ∷ []) a (inr h) = absurd h
      positive (x ∷ y ∷ code) a (inl e) = let Q : Instruction → Type 0 = λ y. 0 < y.length in subst Q (sym e) a.0
      positive (x ∷ y ∷ code) a (inr h) = positive (y ∷ code) a.1.1 h

pub adjacent : (l : Listing) (ps : List Place)
    → AreApart l.code
    → ArePlaces l ps
    → (k s : ℕ)
    → k < length ps
    → s < length ps
    → next_in (standing l (at ps k)) (at ps k).index ≡ Some (at ps s)
    → suc k ≡ s
adjacent l ps a all k s k_in s_in e =
    let p = at ps k in
    let o = owner_of l p ((all.each p).0 (at_in ps k k_in)) in
    let n : next_place o.owner p.index ≡ at ps s =
    some_same (sym (next_here l p o.owner o.found ((all.each p).0 (at_in ps k k_in))) ∙ e) in
    let P : Place → Type 0 = λ q. IsBefore p q in
    let before : IsBefore p (at ps s) = subst P n (after_it l p o.owner a o.found) in
    ⊎_elim (λ same. same)
    (λ c. ⊎_elim
    (λ less.
    let r = at ps (suc k) in
    let r_in : suc k < length ps = omega arith in
    let Q : Place → Type 0 = λ q. IsBefore r q in
    absurd (between l p r o.owner a o.found o.index ((all.each r).0 (at_in ps (suc k) r_in))
    (at_before ps all.rising k (suc k) (omega arith) r_in)
    (subst Q (sym n) (at_before ps all.rising (suc k) s less s_in))))
    (λ more. absurd (⊎_elim
    (λ same. not_before p (let R : ℕ → Type 0 = λ j. IsBefore p (at ps j) in subst R same before))
    (λ less. before_once p (at ps s) before (at_before ps all.rising s k less k_in))
    (under s k more)))
    c)
    (cases_order (suc k) s) where
      under : (m n : ℕ) → m < suc n → (m ≡ n) ⊎ (m < n)
      under m n lt = ⊎_elim (λ h. inr h) (λ h. inl (omega arith)) (cases_lt m n)

-- ---- a reached place where no block begins

pub record Before (l : Listing) (p : Place) : Type 0 where
  pub from : Place
  pub reached : Reached l [] from
  pub goes_on : turn_at l from ≡ GoesOn
  pub leads : LeadsTo l [] from p

pub starts_reached : (l : Listing) (p : Place) → BeginsBlock l [] p → Reached l [] p
starts_reached l p Entry = First
starts_reached l p (Led q p' r b h) = Next q p' r h

pub before_it : (l : Listing) (p : Place)
    → ((q : Place) → Reached l [] q → stands l q ≡ true)
    → Reached l [] p
    → (BeginsBlock l [] p → ⊥)
    → Before l p
before_it l p all First out = absurd (out Entry)
before_it l p all (Next q p' r h) out = by (turn_at l q) refl where
  ends : (t : Turn) → turn_at l q ≡ t → turn_ways l [] q (owner_of l q (all q r)).owner t ≡ [] → Before l p'
  ends t e f =
      let o = owner_of l q (all q r) in
      let P : List Way → Type 0 = λ ws. IsIn (Leads p') ws in
      absurd (subst P (ways_by l q o.owner t o.found (all q r) e ∙ f) h)

  by : (t : Turn) → turn_at l q ≡ t → Before l p'
  by GoesOn e = record { from = q; reached = r; goes_on = e; leads = h }
  by Returns e = ends Returns e refl
  by Stops e = ends Stops e refl
  by (Branches to) e = absurd (out (Led q p' r (ap is_branch e) h))
  by (Tests to) e = absurd (out (Led q p' r (ap is_branch e) h))
  by Switches e = absurd (out (Led q p' r (ap is_branch e) h))
