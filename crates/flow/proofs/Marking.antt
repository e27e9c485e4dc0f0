-- The marks of block starts, and the places that are picked by marks.
use Rattle.std.proofs.Common.{◌≡◌, ℕ, zero, suc, ◌+◌, ◌<◌, ◌≤◌, Bool, true, false, List, [], ◌∷◌, ◌++◌, length, set, replicate, refl, sym, ap, ◌∙◌, subst, ◌⊎◌, inl, inr, ⊎_elim, arith, Some}
use Rattle.std.specs.Prelude.{slice_get}
use Rattle.std.specs.List.{slice_index_or}
use Rattle.std.proofs.Math.ListN.{length-set, length-replicate}
use Rattle.std.proofs.lemmas.List.{get_or-set_same}
use Rattle.std.proofs.lemmas.Bool.{cases_lt, false≢true}
use Rattle.std.proofs.lemmas.Option.{slice_get_within, get_or_from_slice_get}
use Rattle.pcode_model.specs.declared.listing.Place.{Place}
use Rattle.pcode_model.specs.declared.listing.Listing.{Listing}
use Rattle.pcode_model.specs.Places.{place}
use Rattle.pcode_model.specs.Step.{first_place}
use Rattle.pcode_model.specs.Flow.{IsIn, IsBefore, Rising, LeadsTo, ways, is_branch, turn_at, Reached, First, BeginsBlock, Entry, Led, AreStarts}
use Rattle.flow.specs.declared.edges.Leaving.{Leaving}
use Rattle.flow.specs.Slots.{at, Marked, ArePlaces, MarksReached, MarksStarts, picked, one_if}
use Rattle.flow.specs.Edges.{AllMean, targets_of}
use Rattle.flow.specs.Marks.{Marks, MarksBranch}
use Rattle.flow.proofs.Order.{at_before, in_at, rising_both}
use Rattle.pcode_model.proofs.Members.{behind, in_either, in_front}
use Rattle.flow.proofs.Rounds.{marked_back, marked_set}
use Rattle.flow.proofs.Reaching.{at_once, targets_lead, leads_targets, lead_stands, none_marked}

pub marks_none : (seen : List Bool) → Marks seen [] seen
marks_none seen = record { long = refl; keeps = λ n h. h; all = λ n h. absurd h; fresh = λ n h. inl h }

pub marks_one : (seen : List Bool) (m : ℕ) → m < length seen → Marks seen (m ∷ []) (set seen m true)
marks_one seen m lt = record {
  long = length-set seen m true;
  keeps = λ n h. marked_set seen m n lt h;
  all = λ n h. ⊎_elim
      (λ e.
      let P : ℕ → Type 0 = λ k. Marked (set seen m true) k in
      subst P (sym e) (get_or-set_same seen m true false lt))
      (λ bad. absurd bad)
      h;
  fresh = λ n h. ⊎_elim (λ e. inr (inl e)) (λ old. inl old) (marked_back seen m n h);
}

pub marks_both : (seen : List Bool) (xs : List ℕ) (seen' : List Bool) (ys : List ℕ) (seen'' : List Bool)
    → Marks seen xs seen'
    → Marks seen' ys seen''
    → Marks seen (xs ++ ys) seen''
marks_both seen xs seen' ys seen'' x y = record {
  long = y.long ∙ x.long;
  keeps = λ n h. y.keeps n (x.keeps n h);
  all = λ n h. ⊎_elim (λ a. y.keeps n (x.all n a)) (λ b. y.all n b) (in_either xs ys n h);
  fresh = λ n h. ⊎_elim
      (λ old. ⊎_elim (λ a. inl a) (λ b. inr (front n xs b)) (x.fresh n old))
      (λ new. inr (back n xs new))
      (y.fresh n h);
} where
  front : (n : ℕ) (zs : List ℕ) → IsIn n zs → IsIn n (zs ++ ys)
  front n [] h = absurd h
  front n (z ∷ zs) (inl e) = inl e
  front n (z ∷ zs) (inr h) = inr (front n zs h)

  back : (n : ℕ) (zs : List ℕ) → IsIn n ys → IsIn n (zs ++ ys)
  back n [] h = h
  back n (z ∷ zs) h = inr (back n zs h)

pub branch_marked : (l : Listing) (ps : List Place) (p : Place) (edges : Leaving) (seen seen' : List Bool)
    → Rising ps
    → is_branch (turn_at l p) ≡ true
    → AllMean ps edges (ways l [] p)
    → Marks seen (targets_of edges) seen'
    → MarksBranch l ps p seen seen'
branch_marked l ps p edges seen seen' r b m x = record {
  long = x.long;
  keeps = x.keeps;
  all = λ n lt b' h. x.all n (leads_targets ps r edges (ways l [] p) n lt m h);
  fresh = λ n h. ⊎_elim (λ old. inl old) (λ new. inr (b, targets_lead ps edges (ways l [] p) n m new)) (x.fresh n h);
}

pub branch_passed : (l : Listing) (ps : List Place) (p : Place) (seen : List Bool)
    → is_branch (turn_at l p) ≡ false
    → MarksBranch l ps p seen seen
branch_passed l ps p seen b = record {
  long = refl;
  keeps = λ n h. h;
  all = λ n lt b' h. absurd (false≢true (sym b ∙ b'));
  fresh = λ n h. inl h;
}

-- ---- the loop over the places

pub record Marking (l : Listing) (ps : List Place) (start n : ℕ) (seen : List Bool) : Type 0 where
  pub long : length seen ≡ length ps
  pub begun : Marked seen start
  pub sound : (s : ℕ) → Marked seen s → BeginsBlock l [] (at ps s)
  pub done : (a b : ℕ)
      → a < n
      → Reached l [] (at ps a)
      → is_branch (turn_at l (at ps a)) ≡ true
      → b < length ps
      → LeadsTo l [] (at ps a) (at ps b)
      → Marked seen b

pub marking_first : (l : Listing) (ps : List Place) (start : ℕ) (flags : List Bool)
    → slice_get ps start ≡ Some (first_place l)
    → flags ≡ replicate (length ps) false
    → Marking l ps start 0 (set flags start true)
marking_first l ps start flags e f =
    let lt : start < length ps = slice_get_within ps start (first_place l) e in
    let long : length flags ≡ length ps = ap length f ∙ length-replicate (length ps) false in
    let P : Place → Type 0 = λ p. BeginsBlock l [] p in
    let Q : ℕ → Type 0 = λ k. BeginsBlock l [] (at ps k) in
    record {
      long = length-set flags start true ∙ long;
      begun = get_or-set_same flags start true false (omega arith);
      sound = λ s h. ⊎_elim
          (λ same.
          subst Q (sym same) (subst P (sym (get_or_from_slice_get ps start (first_place l) (place 0 0) e)) Entry))
          (λ old. absurd (none_marked (length ps) s (let R : List Bool → Type 0 = λ x. Marked x s in subst R f old)))
          (marked_back flags start s h);
      done = λ a b lt' r i inside h. absurd (omega arith);
    }

less_or_same : (a n : ℕ) → a < n + 1 → (a < n) ⊎ (a ≡ n)
less_or_same a n lt = ⊎_elim (λ h. inl h) (λ h. inr (omega arith)) (cases_lt a n)

pub marking_reached : (l : Listing) (ps : List Place) (start n : ℕ) (seen seen' : List Bool)
    → Marking l ps start n seen
    → Reached l [] (at ps n)
    → MarksBranch l ps (at ps n) seen seen'
    → Marking l ps start (n + 1) seen'
marking_reached l ps start n seen seen' m r x = record {
  long = x.long ∙ m.long;
  begun = x.keeps start m.begun;
  sound = λ s h. ⊎_elim (λ old. m.sound s old) (λ new. Led (at ps n) (at ps s) r new.0 new.1) (x.fresh s h);
  done = λ a b lt ra i inside h. ⊎_elim
      (λ old. x.keeps b (m.done a b old ra i inside h))
      (λ same.
      let P : ℕ → Type 0 = λ k. is_branch (turn_at l (at ps k)) ≡ true in
      let Q : ℕ → Type 0 = λ k. LeadsTo l [] (at ps k) (at ps b) in
      x.all b inside (subst P same i) (subst Q same h))
      (less_or_same a n lt);
}

pub marking_passed : (l : Listing) (ps : List Place) (start n : ℕ) (seen : List Bool)
    → Marking l ps start n seen
    → (Reached l [] (at ps n) → ⊥)
    → Marking l ps start (n + 1) seen
marking_passed l ps start n seen m not_reached = record {
  long = m.long;
  begun = m.begun;
  sound = m.sound;
  done = λ a b lt ra i inside h.
      ⊎_elim
      (λ old. m.done a b old ra i inside h)
      (λ same. let P : ℕ → Type 0 = λ k. Reached l [] (at ps k) in absurd (not_reached (subst P same ra)))
      (less_or_same a n lt);
}

begun_marked : (l : Listing) (ps : List Place) (start n : ℕ) (seen flags : List Bool)
    → ArePlaces l ps
    → slice_get ps start ≡ Some (first_place l)
    → MarksReached l [] ps flags
    → Marking l ps start n seen
    → length ps ≤ n
    → (p : Place)
    → BeginsBlock l [] p
    → (s : ℕ)
    → s < length ps
    → at ps s ≡ p
    → Marked seen s
begun_marked l ps start n seen flags a e f m le p Entry s lt is =
    let inside : start < length ps = slice_get_within ps start (first_place l) e in
    let P : ℕ → Type 0 = λ k. Marked seen k in
    subst P
    (at_once ps a.rising start s inside lt (get_or_from_slice_get ps start (first_place l) (place 0 0) e ∙ sym is))
    m.begun
begun_marked l ps start n seen flags a e f m le p (Led q p' r b h) s lt is =
    let x = in_at q ps (f.all q r) in
    let P : Place → Type 0 = λ z. Reached l [] z in
    let Q : Place → Type 0 = λ z. is_branch (turn_at l z) ≡ true in
    let R : Place → Type 0 = λ z. LeadsTo l [] z (at ps s) in
    let S : Place → Type 0 = λ z. LeadsTo l [] q z in
    m.done x.0 s (omega (arith, x.1.0)) (subst P (sym x.1.1) r) (subst Q (sym x.1.1) b) lt
    (subst R (sym x.1.1) (subst S (sym is) h))

pub marking_last : (l : Listing) (ps : List Place) (start n : ℕ) (seen flags : List Bool)
    → ArePlaces l ps
    → slice_get ps start ≡ Some (first_place l)
    → MarksReached l [] ps flags
    → Marking l ps start n seen
    → length ps ≤ n
    → MarksStarts l [] ps seen
marking_last l ps start n seen flags a e f m le = record {
  long = m.long;
  each = λ s lt. (m.sound s, λ b. begun_marked l ps start n seen flags a e f m le (at ps s) b s lt refl);
}

-- ---- picked places

in_one : (b : Bool) (p q : Place) → IsIn q (one_if b p) → (b ≡ true) × (q ≡ p)
in_one true p q h = ⊎_elim (λ e. (refl, e)) (λ bad. absurd bad) h
in_one false p q h = absurd h

one_in : (b : Bool) (p : Place) → b ≡ true → IsIn p (one_if b p)
one_in true p e = inl refl
one_in false p e = absurd (false≢true e)

pub picked_in : (flags : List Bool) (ps : List Place) (n : ℕ) (q : Place)
    → IsIn q (picked flags ps n)
    → (k : ℕ) × ((k < n) × (Marked flags k × (q ≡ at ps k)))
picked_in flags ps zero q h = absurd h
picked_in flags ps (suc n) q h =
    ⊎_elim
    (λ a. let x = picked_in flags ps n q a in (x.0, (omega (arith, x.1.0), x.1.1)))
    (λ b. let x = in_one (slice_index_or flags n false) (at ps n) q b in (n, (omega arith, x)))
    (in_either (picked flags ps n) (one_if (slice_index_or flags n false) (at ps n)) q h)

pub in_picked : (flags : List Bool) (ps : List Place) (n k : ℕ)
    → k < n
    → Marked flags k
    → IsIn (at ps k) (picked flags ps n)
in_picked flags ps zero k lt m = absurd (omega arith)
in_picked flags ps (suc n) k lt m =
    let P : ℕ → Type 0 = λ j. IsIn (at ps j) (picked flags ps n ++ one_if (slice_index_or flags n false) (at ps n)) in
    ⊎_elim
    (λ a. in_front (picked flags ps n) (one_if (slice_index_or flags n false) (at ps n)) (at ps k)
    (in_picked flags ps n k a m))
    (λ a.
    let same : k ≡ n = omega arith in
    let Q : ℕ → Type 0 = λ j. Marked flags j in
    subst P (sym same) (behind (picked flags ps n) (one_if (slice_index_or flags n false) (at ps n)) (at ps n)
    (one_in (slice_index_or flags n false) (at ps n) (subst Q same m))))
    (cases_lt k n)

rising_one : (b : Bool) (p : Place) → Rising (one_if b p)
rising_one true p = tt
rising_one false p = tt

pub rising_picked : (flags : List Bool) (ps : List Place) (n : ℕ)
    → Rising ps
    → n ≤ length ps
    → Rising (picked flags ps n)
rising_picked flags ps zero r le = tt
rising_picked flags ps (suc n) r le =
    rising_both (picked flags ps n) (one_if (slice_index_or flags n false) (at ps n))
    (rising_picked flags ps n r (omega arith)) (rising_one (slice_index_or flags n false) (at ps n))
    (λ p q h k.
    let x = picked_in flags ps n p h in
    let y = in_one (slice_index_or flags n false) (at ps n) q k in
    let P : Place → Type 0 = λ z. IsBefore z q in
    let Q : Place → Type 0 = λ z. IsBefore (at ps x.0) z in
    subst P (sym x.1.1.1) (subst Q (sym y.1) (at_before ps r x.0 n x.1.0 (omega arith))))

begins_in : (l : Listing) (ps : List Place) (flags : List Bool)
    → ArePlaces l ps
    → MarksReached l [] ps flags
    → (p : Place)
    → BeginsBlock l [] p
    → IsIn p ps
begins_in l ps flags a f p Entry = f.all (first_place l) First
begins_in l ps flags a f p (Led q p' r b h) = (a.each p').1 (lead_stands l q p' h)

pub are_starts : (l : Listing) (ps : List Place) (reached begins : List Bool)
    → ArePlaces l ps
    → MarksReached l [] ps reached
    → MarksStarts l [] ps begins
    → AreStarts l [] (picked begins ps (length ps))
are_starts l ps reached begins a f m = record {
  each = λ p. (
    λ h.
        let x = picked_in begins ps (length ps) p h in
        let P : Place → Type 0 = λ z. BeginsBlock l [] z in
        subst P (sym x.1.1.1) ((m.each x.0 x.1.0).0 x.1.1.0),
    λ b.
        let x = in_at p ps (begins_in l ps reached a f p b) in
        let P : Place → Type 0 = λ z. BeginsBlock l [] z in
        let Q : Place → Type 0 = λ z. IsIn z (picked begins ps (length ps)) in
        subst Q x.1.1 (in_picked begins ps (length ps) x.0 x.1.0 ((m.each x.0 x.1.0).1 (subst P (sym x.1.1) b))),
  );
  rising = rising_picked begins ps (length ps) a.rising (omega arith);
}
