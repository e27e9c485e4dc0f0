-- The order of places, and lists that rise in it.
use Rattle.std.proofs.Common.{◌≡◌, ℕ, zero, suc, ◌+◌, ◌<◌, ◌≤◌, List, [], ◌∷◌, ◌++◌, length, get_or, refl, sym, ap, ◌∙◌, subst, ◌⊎◌, inl, inr, ⊎_elim, arith, Some}
use Rattle.std.proofs.lemmas.Bool.{cases_order}
use Rattle.std.specs.Prelude.{slice_get}
use Rattle.std.proofs.lemmas.Option.{slice_get-get_or, get_or_from_slice_get, slice_get_within, slice_get_read}
use Rattle.pcode_model.specs.declared.listing.Place.{Place}
use Rattle.pcode_model.specs.Places.{place}
use Rattle.pcode_model.specs.Flow.{IsIn, IsBefore, Rising}
use Rattle.flow.specs.Slots.{at, IsLowerBound}
use Rattle.pcode_model.proofs.Members.{in_either, same_place}

-- the order of places is transitive
pub before_trans : (p q r : Place) → IsBefore p q → IsBefore q r → IsBefore p r
before_trans p q r (inl a) (inl b) = inl (omega arith)
before_trans p q r (inl a) (inr b) = inl (omega arith)
before_trans p q r (inr a) (inl b) = inl (omega arith)
before_trans p q r (inr a) (inr b) = inr (omega arith, omega arith)

-- no place stands before itself
pub not_before : (p : Place) → IsBefore p p → ⊥
not_before p (inl a) = omega arith
not_before p (inr a) = omega arith

pub before_once : (p q : Place) → IsBefore p q → IsBefore q p → ⊥
before_once p q a b = not_before p (before_trans p q p a b)

pub ordered : (p q : Place) → (p ≡ q) ⊎ (IsBefore p q ⊎ IsBefore q p)
ordered p q =
    ⊎_elim
    (λ e. ⊎_elim
    (λ f. inl (same_place p q e f))
    (λ o. inr (⊎_elim (λ a. inl (inr (e, a))) (λ b. inr (inr (sym e, b))) o))
    (cases_order p.index q.index))
    (λ o. inr (⊎_elim (λ a. inl (inl a)) (λ b. inr (inl b)) o))
    (cases_order p.address q.address)

-- ---- members by number

pub at_in : (ps : List Place) (k : ℕ) → k < length ps → IsIn (at ps k) ps
at_in [] k lt = absurd (omega arith)
at_in (p ∷ ps) zero lt = inl refl
at_in (p ∷ ps) (suc k) lt = inr (at_in ps k (omega arith))

pub in_at : (p : Place) (ps : List Place) → IsIn p ps → (k : ℕ) × ((k < length ps) × (at ps k ≡ p))
in_at p [] h = absurd h
in_at p (q ∷ ps) (inl e) = (zero, (omega arith, sym e))
in_at p (q ∷ ps) (inr h) = let x = in_at p ps h in (suc x.0, (omega arith, x.1.1))

pub in_of_slice : (ps : List Place) (k : ℕ) (p : Place) → slice_get ps k ≡ Some p → IsIn p ps
in_of_slice ps k p e =
    let P : Place → Type 0 = λ q. IsIn q ps in
    subst P (get_or_from_slice_get ps k p (place 0 0) e) (at_in ps k (slice_get_within ps k p e))

pub slice_at : (ps : List Place) (k : ℕ) → k < length ps → slice_get ps k ≡ Some (at ps k)
slice_at ps k lt = slice_get-get_or ps k (place 0 0) lt

-- ---- rising lists

pub rising_rest : (p : Place) (ps : List Place) → Rising (p ∷ ps) → Rising ps
rising_rest p [] r = tt
rising_rest p (q ∷ ps) r = r.1

pub rising_head : (p : Place) (ps : List Place) → Rising (p ∷ ps) → (q : Place) → IsIn q ps → IsBefore p q
rising_head p [] r q h = absurd h
rising_head p (x ∷ ps) r q (inl e) = let P : Place → Type 0 = λ y. IsBefore p y in subst P (sym e) r.0
rising_head p (x ∷ ps) r q (inr h) = before_trans p x q r.0 (rising_head x ps r.1 q h)

pub at_before : (ps : List Place) → Rising ps → (j k : ℕ) → j < k → k < length ps → IsBefore (at ps j) (at ps k)
at_before [] r j k lt inside = absurd (omega arith)
at_before (p ∷ ps) r j zero lt inside = absurd (omega arith)
at_before (p ∷ ps) r zero (suc k) lt inside = rising_head p ps r (at ps k) (at_in ps k (omega arith))
at_before (p ∷ ps) r (suc j) (suc k) lt inside = at_before ps (rising_rest p ps r) j k (omega arith) (omega arith)

pub rising_cons : (p : Place) (ps : List Place) → Rising ps → ((q : Place) → IsIn q ps → IsBefore p q) → Rising (p ∷ ps)
rising_cons p [] r all = tt
rising_cons p (q ∷ ps) r all = (all q (inl refl), r)

pub rising_both : (ps qs : List Place)
    → Rising ps
    → Rising qs
    → ((p q : Place) → IsIn p ps → IsIn q qs → IsBefore p q)
    → Rising (ps ++ qs)
rising_both [] qs r s all = s
rising_both (p ∷ ps) qs r s all =
    rising_cons p (ps ++ qs) (rising_both ps qs (rising_rest p ps r) s (λ x y h k. all x y (inr h) k))
    (λ q h. ⊎_elim (λ a. rising_head p ps r q a) (λ b. all p q (inl refl) b) (in_either ps qs q h))

-- ---- lower bounds

-- a member stands at its lower bound
pub bound_of_member : (ps : List Place) (p : Place) (n : ℕ)
    → Rising ps
    → IsLowerBound ps p n
    → IsIn p ps
    → slice_get ps n ≡ Some p
bound_of_member ps p n r b h =
    let x = in_at p ps h in
    let P : Place → Type 0 = λ q. IsBefore q p in
    let Q : ℕ → Type 0 = λ k. slice_get ps k ≡ Some p in
    ⊎_elim
    (λ e. subst Q e (slice_at ps x.0 x.1.0 ∙ ap Some x.1.1))
    (λ o. absurd (⊎_elim
    (λ lt. not_before p (let R : Place → Type 0 = λ q. IsBefore q p in subst R x.1.1 (b.below x.0 lt)))
    (λ gt. let inside : n < length ps = omega (arith, x.1.0) in
    let R : Place → Type 0 = λ q. IsBefore (at ps n) q in
    let after : IsBefore (at ps n) p = subst R x.1.1 (at_before ps r n x.0 gt x.1.0) in
    ⊎_elim
    (λ a. before_once p (at ps n) a after)
    (λ e. not_before p (let S : Place → Type 0 = λ q. IsBefore q p in subst S e after))
    (b.above n (omega arith) inside))
    o))
    (cases_order x.0 n)

-- where the place at the lower bound is another one, there is no member
pub bound_of_none : (ps : List Place) (p : Place) (n : ℕ)
    → Rising ps
    → IsLowerBound ps p n
    → (slice_get ps n ≡ Some p → ⊥)
    → IsIn p ps
    → ⊥
bound_of_none ps p n r b other h = other (bound_of_member ps p n r b h)

-- ---- the search by place

-- places below low come before p, and those from high on don't
pub record Bounding (ps : List Place) (p : Place) (low high : ℕ) : Type 0 where
  pub inside : high ≤ length ps
  pub ordered : low ≤ high
  pub below : (k : ℕ) → k < low → IsBefore (at ps k) p
  pub above : (k : ℕ) → high ≤ k → k < length ps → IsBefore p (at ps k) ⊎ (at ps k ≡ p)

pub bounding_up : (ps : List Place) (p : Place) (low high m : ℕ)
    → Rising ps
    → Bounding ps p low high
    → m < high
    → IsBefore (at ps m) p
    → Bounding ps p (m + 1) high
bounding_up ps p low high m r b lt less = record {
  inside = b.inside;
  ordered = omega arith;
  below = λ k h. ⊎_elim
      (λ same. let P : ℕ → Type 0 = λ n. IsBefore (at ps n) p in subst P (sym same) less)
      (λ o. ⊎_elim
      (λ a. before_trans (at ps k) (at ps m) p (at_before ps r k m a (omega (arith, b.inside))) less)
      (λ a. absurd (omega arith))
      o)
      (cases_order k m);
  above = b.above;
}

pub bounding_down : (ps : List Place) (p : Place) (low high m : ℕ)
    → Rising ps
    → Bounding ps p low high
    → low ≤ m
    → m < high
    → IsBefore p (at ps m) ⊎ (at ps m ≡ p)
    → Bounding ps p low m
bounding_down ps p low high m r b le lt more = record {
  inside = omega (arith, b.inside);
  ordered = le;
  below = b.below;
  above = λ k h inside. ⊎_elim
      (λ same. let P : ℕ → Type 0 = λ n. IsBefore p (at ps n) ⊎ (at ps n ≡ p) in subst P (sym same) more)
      (λ o. ⊎_elim (λ a. absurd (omega arith)) (λ a. inl (after k (at_before ps r m k a inside))) o)
      (cases_order k m);
} where
  after : (k : ℕ) → IsBefore (at ps m) (at ps k) → IsBefore p (at ps k)
  after k a =
      ⊎_elim
      (λ x. before_trans p (at ps m) (at ps k) x a)
      (λ e. let P : Place → Type 0 = λ q. IsBefore q (at ps k) in subst P e a)
      more

pub bounding_first : (ps : List Place) (p : Place) → Bounding ps p 0 (length ps)
bounding_first ps p = record {
  inside = omega arith;
  ordered = omega arith;
  below = λ k h. absurd (omega arith);
  above = λ k h inside. absurd (omega arith);
}

pub bounding_last : (ps : List Place) (p : Place) (low high : ℕ)
    → Bounding ps p low high
    → high ≤ low
    → IsLowerBound ps p low
bounding_last ps p low high b le = record {
  inside = omega (arith, b.inside, b.ordered);
  below = b.below;
  above = λ k h inside. b.above k (omega (arith, b.ordered)) inside;
}

-- by the parts of the order
pub not_below : (p q : Place)
    → (p.address < q.address → ⊥)
    → (p.address ≡ q.address → p.index < q.index → ⊥)
    → IsBefore q p ⊎ (p ≡ q)
not_below p q a b =
    ⊎_elim (λ e. inr e) (λ o. ⊎_elim (λ h. absurd (⊎_elim (λ x. a x) (λ x. b x.0 x.1) h)) (λ h. inl h) o) (ordered p q)

pub not_under : (p q : Place) → (IsBefore q p → ⊥) → IsBefore p q ⊎ (q ≡ p)
not_under p q n = ⊎_elim (λ e. inr (sym e)) (λ o. ⊎_elim (λ h. inl h) (λ h. absurd (n h)) o) (ordered p q)

-- an element that was read is the place of its number
pub read_at : (ps : List Place) (k : ℕ) (p : Place) → k < length ps → p ≡ get_or ps k p → p ≡ at ps k
read_at ps k p lt e = sym (get_or_from_slice_get ps k p (place 0 0) (slice_get_read ps (length ps) k p refl lt e))
