-- Runs of machines: steps add up, and a simulation gives two-way runs.
use Rattle.std.proofs.Common.{◌≡◌, ℕ, zero, suc, ◌+◌, ◌-◌, ◌<◌, ◌≤◌, refl, sym, Some, ap, ◌∙◌, subst, ◌⊎◌, inl, inr, ⊎_elim, arith}
use Rattle.std.proofs.lemmas.Bool.{cases_lt}
use Rattle.machine.specs.Trace.{End, Trace}
use Rattle.machine.specs.TwoWay.{IsFront, TwoWay, Grows}
use Rattle.machine.specs.Machine.{after, Machine, seen, IsMonotone, Goes, Simulates, WaitingSimulates}
use Rattle.machine.proofs.TwoWay.{front_refl, front_trans, front_eq, front_of_over}

-- more steps see more
pub sees_more : {S : Type 0} (a : Machine S) → IsMonotone a → (s : S) (n k : ℕ) → n ≤ k → IsFront (seen a s n) (seen a s k)
sees_more a mono s zero zero le = front_refl (a.sight s)
sees_more a mono s zero (suc k) le = front_trans (a.sight s) (a.sight (a.step s)) (seen a s (suc k)) (mono s) (sees_more a mono (a.step s) zero k (omega arith))
sees_more a mono s (suc n) zero le = absurd (omega arith)
sees_more a mono s (suc n) (suc k) le = sees_more a mono (a.step s) n k (omega arith)

-- n steps and k more
pub after_more : {S : Type 0} (step : S → S) (s : S) (n k : ℕ) → after step k (after step n s) ≡ after step (n + k) s
after_more step s zero k = ap (λ m. after step m s) (let e : k ≡ zero + k = omega arith in e)
after_more step s (suc n) k = after_more step (step s) n k ∙ ap (λ m. after step m s) (let e : suc (n + k) ≡ suc n + k = omega arith in e)

-- a machine that stands still
pub stands : {S : Type 0} (step : S → S) (s : S) → step s ≡ s → (n : ℕ) → after step n s ≡ s
stands step s e zero = refl
stands step s e (suc n) = ap (λ x. after step n x) e ∙ stands step s e n

-- a run only adds to what it has shown
pub seen_grows : {S : Type 0} (a : Machine S) → IsMonotone a → (s : S) → Grows (seen a s)
seen_grows a mono s = λ n. sees_more a mono s n (suc n) (omega arith)

-- once there is an end, what is seen stays
pub stays_seen : {S : Type 0} (a : Machine S) → IsMonotone a → (s : S) (e : End) → (a.sight s).over ≡ Some e → (n : ℕ) → a.sight s ≡ seen a s n
stays_seen a mono s e over n = front_of_over (a.sight s) (seen a s n) e over (sees_more a mono s zero n (omega arith))

-- by steps of the other, at least as many, the very same is seen
pub two_way_by_steps : {T : Type 0} (r : ℕ → Trace) (b : Machine T) → IsMonotone b → (t : T) → ((n : ℕ) → (m : ℕ) × (n ≤ m) × (r n ≡ seen b t m)) → TwoWay r (seen b t)
two_way_by_steps r b mono t follow = record {
  there = λ n. let f = follow n in (f.0, front_eq (r n) (seen b t f.0) f.2);
  back = λ m. let f = follow m in (m, let P : Trace → Type 0 = λ v. IsFront (seen b t m) v in subst P (sym f.2) (sees_more b mono t m f.0 f.1));
}

-- from where both have come, counted from the start
joined : {S T : Type 0} (a : Machine S) (b : Machine T) (s : S) (t : T) (i j n k : ℕ) → i ≤ n → IsFront (seen a (after a.step (suc i) s) (n - i)) (seen b (after b.step (suc j) t) k) → IsFront (seen a s (suc n)) (seen b t (suc j + k))
joined a b s t i j n k le f =
    let e : suc i + (n - i) ≡ suc n = omega arith in
    let ea = ap a.sight (after_more a.step s (suc i) (n - i) ∙ ap (λ m. after a.step m s) e) in
    let eb = ap b.sight (after_more b.step t (suc j) k) in
    let P : Trace → Type 0 = λ v. IsFront v (seen b (after b.step (suc j) t) k) in
    let Q : Trace → Type 0 = λ v. IsFront (seen a s (suc n)) v in
    subst Q eb (subst P ea f)

-- what one sees within so many steps is a front of what the other sees
along : {S T : Type 0} (a : Machine S) (b : Machine T) (R : S → T → Type 0) → IsMonotone a → Simulates a b R → (bound n : ℕ) → n ≤ bound → (s : S) (t : T) → R s t → (m : ℕ) × IsFront (seen a s n) (seen b t m)
along a b R mono sim bound zero le s t rel = (zero, front_eq (a.sight s) (b.sight t) (sim.same s t rel))
along a b R mono sim zero (suc n) le s t rel = absurd (omega arith)
along a b R mono sim (suc bound) (suc n) le s t rel =
    ⊎_elim
    (λ still. (zero, front_eq (seen a s (suc n)) (b.sight t) (ap a.sight (stands a.step s still.0 (suc n)) ∙ sim.same s t rel)))
    (λ go. let i = go.0 in let j = go.1.0 in let r = go.1.1 in
    ⊎_elim
    (λ lt. (suc j, front_trans (seen a s (suc n)) (seen a s (suc i)) (seen b t (suc j)) (sees_more a mono s (suc n) (suc i) (omega arith)) (front_eq (seen a s (suc i)) (seen b t (suc j)) (sim.same (after a.step (suc i) s) (after b.step (suc j) t) r))))
    (λ le'. let k = along a b R mono sim bound (n - i) (omega arith) (after a.step (suc i) s) (after b.step (suc j) t) r in (suc j + k.0, joined a b s t i j n k.0 le' k.1))
    (cases_lt n i))
    (sim.goes s t rel)

turned : {S T : Type 0} (a : Machine S) (b : Machine T) (R : S → T → Type 0) → Simulates a b R → Simulates b a (λ t s. R s t)
turned a b R sim = record {
  same = λ t s rel. sym (sim.same s t rel);
  goes = λ t s rel. ⊎_elim (λ still. inl (still.1, still.0)) (λ go. inr (go.1.0, (go.0, go.1.1))) (sim.goes s t rel);
}

-- related states are seen alike
pub two_way_by : {S T : Type 0} (a : Machine S) (b : Machine T) (R : S → T → Type 0) → IsMonotone a → IsMonotone b → Simulates a b R → (s : S) (t : T) → R s t → TwoWay (seen a s) (seen b t)
two_way_by a b R ma mb sim s t rel = record {
  there = λ n. along a b R ma sim n n (omega arith) s t rel;
  back = λ m. along b a (λ t s. R s t) mb (turned a b R sim) m m (omega arith) t s rel;
}

-- one more stretch of the first in front
before : {S T : Type 0} (a : Machine S) (b : Machine T) (R : S → T → Type 0) (s : S) (t : T) (i : ℕ) → R (after a.step (suc i) s) t → Goes a b R (after a.step (suc i) s) t → Goes a b R s t
before a b R s t i rel go =
    ⊎_elim
    (λ still. inr (i, (zero, let P : _ = λ v. R (after a.step (suc i) s) v in subst P (sym still.1) rel)))
    (λ go. let k = go.0 in let j = go.1.0 in
    let e : suc i + suc k ≡ suc (i + suc k) = omega arith in
    inr (i + suc k, (j, let P : _ = λ v. R v (after b.step (suc j) t) in subst P (after_more a.step s (suc i) (suc k) ∙ ap (λ n. after a.step n s) e) go.1.1)))
    go

pub moves_on : {S T : Type 0} (a : Machine S) (b : Machine T) (R : S → T → Type 0) (s : S) (t : T) (i j : ℕ) → R (after a.step (suc i) s) (after b.step j t) → ((0 < j) ⊎ Goes a b R (after a.step (suc i) s) (after b.step j t)) → Goes a b R s t
moves_on a b R s t i zero rel w = ⊎_elim (λ lt. absurd (omega arith)) (λ go. before a b R s t i rel go) w
moves_on a b R s t i (suc j) rel w = inr (i, (j, rel))

goes_at : {S T : Type 0} (a : Machine S) (b : Machine T) (R : S → T → Type 0) (size : S → ℕ) → WaitingSimulates a b R size → (bound : ℕ) (s : S) (t : T) → size s < bound → R s t → Goes a b R s t
goes_at a b R size sim zero s t le rel = absurd (omega arith)
goes_at a b R size sim (suc bound) s t le rel =
    ⊎_elim
    (λ still. inl still)
    (λ go. let i = go.0 in let j = go.1.0 in let r = go.1.1.1 in
    moves_on a b R s t i j r (⊎_elim (λ lt. inl lt) (λ falls. inr (goes_at a b R size sim bound (after a.step (suc i) s) (after b.step j t) (omega arith) r)) go.1.1.0))
    (sim.goes s t rel)

pub two_way_waiting : {S T : Type 0} (a : Machine S) (b : Machine T) (R : S → T → Type 0) (size : S → ℕ) → IsMonotone a → IsMonotone b → WaitingSimulates a b R size → (s : S) (t : T) → R s t → TwoWay (seen a s) (seen b t)
two_way_waiting a b R size ma mb sim =
    two_way_by a b R ma mb (record { same = sim.same; goes = λ s t rel. goes_at a b R size sim (suc (size s)) s t (omega arith) rel })
