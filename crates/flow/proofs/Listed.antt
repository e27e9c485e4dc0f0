-- The list of all places of a listing.
use Rattle.std.proofs.Common.{◌≡◌, ℕ, zero, suc, ◌<◌, ◌≤◌, true, false, List, [], ◌∷◌, ◌++◌, length, take, refl, sym, ap, ◌∙◌, subst, inl, inr, ⊎_elim, arith, Option, Some, None, append_assoc}
use Rattle.std.specs.Prelude.{slice_get}
use Rattle.std.proofs.lemmas.Bool.{cases_lt, cases_eq}
use Rattle.std.proofs.lemmas.Option.{slice_get-get_or, slice_get_past}
use Rattle.pcode_model.specs.declared.listing.Op.{Op}
use Rattle.pcode_model.specs.declared.listing.Instruction.{Instruction}
use Rattle.pcode_model.specs.declared.listing.Place.{Place}
use Rattle.pcode_model.specs.declared.listing.Listing.{Listing}
use Rattle.pcode_model.specs.Places.{place, instruction_in, instruction_at, standing, standing_in, standing_of, op_in}
use Rattle.pcode_model.specs.Flow.{IsIn, Rising, AreApart, stands, stands_by}
use Rattle.flow.specs.Slots.{slots_of, slots, indices, ArePlaces}
use Rattle.flow.proofs.Order.{rising_both}
use Rattle.instructions.proofs.Apart.{apart_rest, apart_head, found_in, long, number_in, found_at}
use Rattle.pcode_model.proofs.Members.{behind, in_either, in_front, same_place}

-- ---- the places of one instruction

pub in_indices : (a n : ℕ) (p : Place) → IsIn p (indices a n) → (p.address ≡ a) × (p.index < n)
in_indices a zero p h = absurd h
in_indices a (suc n) p h =
    ⊎_elim
    (λ b. let r = in_indices a n p b in (r.0, omega (arith, r.1)))
    (λ b. ⊎_elim
    (λ e. (ap (λ (q : Place). q.address) e, omega (arith, ap (λ (q : Place). q.index) e)))
    (λ bad. absurd bad)
    b)
    (in_either (indices a n) (place a n ∷ []) p h)

pub indices_in : (a n : ℕ) (p : Place) → p.address ≡ a → p.index < n → IsIn p (indices a n)
indices_in a zero p e lt = absurd (omega arith)
indices_in a (suc n) p e lt =
    ⊎_elim
    (λ f. behind (indices a n) (place a n ∷ []) p (inl (same_place p (place a n) e f)))
    (λ ne. in_front (indices a n) (place a n ∷ []) p (indices_in a n p e (below p.index n lt ne)))
    (cases_eq p.index n) where
      below : (k m : ℕ) → k < suc m → (k ≡ m → ⊥) → k < m
      below k m lt ne = ⊎_elim (λ h. h) (λ h. absurd (ne (omega arith))) (cases_lt k m)

pub rising_indices : (a n : ℕ) → Rising (indices a n)
rising_indices a zero = tt
rising_indices a (suc n) =
    rising_both (indices a n) (place a n ∷ []) (rising_indices a n) tt (λ p q h k. let r = in_indices a n p h in ⊎_elim
    (λ e. inr (r.0 ∙ sym (ap (λ (x : Place). x.address) e), omega (arith, r.1, ap (λ (x : Place). x.index) e)))
    (λ bad. absurd bad) k)

-- ---- the places of a code

abbrev pub places_in : List Instruction → List Place
places_in [] = []
places_in (i ∷ code) = indices i.address (slots i) ++ places_in code

pub places_more : (code : List Instruction) (i : Instruction)
    → places_in (code ++ i ∷ []) ≡ places_in code ++ indices i.address (slots i)
places_more [] i = append_nil (indices i.address (slots i)) where
  append_nil : (xs : List Place) → xs ++ [] ≡ xs
  append_nil [] = refl
  append_nil (x ∷ xs) = ap (λ ys. x ∷ ys) (append_nil xs)
places_more (j ∷ code) i =
    ap (λ ys. indices j.address (slots j) ++ ys) (places_more code i)
    ∙ sym (append_assoc (indices j.address (slots j)) (places_in code) (indices i.address (slots i)))

-- the places of an instruction that is in the code
pub record PlaceOf (code : List Instruction) (p : Place) : Type 0 where
  pub owner : Instruction
  pub member : IsIn owner code
  pub address : p.address ≡ owner.address
  pub index : p.index < slots owner

pub place_in : (code : List Instruction) (p : Place) → IsIn p (places_in code) → PlaceOf code p
place_in [] p h = absurd h
place_in (i ∷ code) p h =
    ⊎_elim
    (λ a.
    let r = in_indices i.address (slots i) p a in
    record { owner = i; member = inl refl; address = r.0; index = r.1 })
    (λ b.
    let r = place_in code p b in
    record { owner = r.owner; member = inr r.member; address = r.address; index = r.index })
    (in_either (indices i.address (slots i)) (places_in code) p h)

pub in_place : (code : List Instruction) (p : Place) (i : Instruction)
    → IsIn i code
    → p.address ≡ i.address
    → p.index < slots i
    → IsIn p (places_in code)
in_place [] p i h e lt = absurd h
in_place (x ∷ code) p i (inl same) e lt =
    let P : Instruction → Type 0 = λ y. IsIn p (indices y.address (slots y) ++ places_in code) in
    subst P same (in_front (indices i.address (slots i)) (places_in code) p (indices_in i.address (slots i) p e lt))
in_place (x ∷ code) p i (inr h) e lt =
    behind (indices x.address (slots x)) (places_in code) p (in_place code p i h e lt)

pub rising_places : (code : List Instruction) → AreApart code → Rising (places_in code)
rising_places [] a = tt
rising_places (i ∷ code) a =
    rising_both (indices i.address (slots i)) (places_in code) (rising_indices i.address (slots i))
    (rising_places code (apart_rest i code a))
    (λ p q h k.
    let r = in_indices i.address (slots i) p h in
    let s = place_in code q k in
    inl (omega (arith, r.0, s.address, long i code a, apart_head i code a s.owner s.member)))

-- ---- what stands at a place

pub in_slots : (i : Instruction) (ops : List Op) (n : ℕ) → stands_by (standing_in i ops n) ≡ true → n < slots_of ops
in_slots i [] zero e = omega arith
in_slots i [] (suc n) e = absurd (cc)
in_slots i (op ∷ ops) n e = ⊎_elim (λ lt. lt) (λ le. absurd (past le)) (cases_lt n (length (op ∷ ops))) where
  past : length (op ∷ ops) ≤ n → ⊥
  past le =
      let f : stands_by (op_in i (slice_get (op ∷ ops) n)) ≡ false =
      ap (λ o. stands_by (op_in i o)) (slice_get_past (op ∷ ops) n le) in
      cc

pub slots_in : (i : Instruction) (ops : List Op) (n : ℕ) → n < slots_of ops → stands_by (standing_in i ops n) ≡ true
slots_in i [] zero lt = refl
slots_in i [] (suc n) lt = absurd (omega arith)
slots_in i (op ∷ ops) n lt = ap (λ o. stands_by (op_in i o)) (slice_get-get_or (op ∷ ops) n op lt)

-- where something stands there is an instruction
pub record Owned (l : Listing) (p : Place) : Type 0 where
  pub owner : Instruction
  pub found : instruction_at l p.address ≡ Some owner
  pub index : p.index < slots owner

pub owner_of : (l : Listing) (p : Place) → stands l p ≡ true → Owned l p
owner_of l p h = by (instruction_at l p.address) refl h where
  by : (o : Option Instruction) → instruction_at l p.address ≡ o → stands_by (standing_of o p.index) ≡ true → Owned l p
  by None e h = absurd (cc)
  by (Some i) e h = record { owner = i; found = e; index = in_slots i i.ops p.index h }

pub stands_of : (l : Listing) (p : Place) (i : Instruction)
    → instruction_at l p.address ≡ Some i
    → p.index < slots i
    → stands l p ≡ true
stands_of l p i e lt = ap (λ o. stands_by (standing_of o p.index)) e ∙ slots_in i i.ops p.index lt

pub stood_at : (l : Listing) (p : Place) (i : Instruction)
    → instruction_at l p.address ≡ Some i
    → standing l p ≡ standing_in i i.ops p.index
stood_at l p i e = ap (λ o. standing_of o p.index) e

pub take_whole : (code : List Instruction) (k : ℕ) → length code ≤ k → take k code ≡ code
take_whole [] zero le = refl
take_whole [] (suc k) le = refl
take_whole (i ∷ code) zero le = absurd (omega arith)
take_whole (i ∷ code) (suc k) le = ap (λ (xs : List Instruction). i ∷ xs) (take_whole code k (omega arith))

places_are : (l : Listing) → AreApart l.code → ArePlaces l (places_in l.code)
places_are l a = record {
  each = λ p. (
    λ h.
        let r = place_in l.code p h in
        let n = number_in l.code r.owner r.member in
        let P : ℕ → Type 0 = λ x. instruction_in l.code x ≡ Some r.owner in
        stands_of l p r.owner (subst P (sym r.address) (found_at l.code a n.0 r.owner n.1)) r.index,
    λ h.
        let r = owner_of l p h in
        let f = found_in l.code p.address r.owner r.found in
        in_place l.code p r.owner f.0 (sym f.1) r.index,
  );
  rising = rising_places l.code a;
}

pub are_places : (l : Listing) (code : List Instruction) (ps : List Place)
    → code ≡ l.code
    → AreApart l.code
    → ps ≡ places_in code
    → ArePlaces l ps
are_places l code ps e a f =
    let P : List Place → Type 0 = λ x. ArePlaces l x in
    subst P (sym (f ∙ ap places_in e)) (places_are l a)
