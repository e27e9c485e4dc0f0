-- A simulation gives two-way runs also where the second machine waits while a rank of the pair falls.
use Rattle.std.proofs.Common.{ℕ, zero, suc, ◌<◌, inl, inr, ⊎_elim, arith}
use Rattle.machine.specs.TwoWay.{TwoWay}
use Rattle.machine.specs.Machine.{after, Machine, seen, IsMonotone, Goes, RankedSimulates}
use Rattle.machine.proofs.Machine.{two_way_by, moves_on}

-- related at some rank
abbrev AtSomeRank : {S T : Type 0} → (ℕ → S → T → Type 0) → S → T → Type 0
AtSomeRank R s t = (n : ℕ) × R n s t

goes_at : {S T : Type 0} (a : Machine S) (b : Machine T) (R : ℕ → S → T → Type 0) → RankedSimulates a b R → (bound n : ℕ) (s : S) (t : T) → n < bound → R n s t → Goes a b (AtSomeRank R) s t
goes_at a b R sim zero n s t le rel = absurd (omega arith)
goes_at a b R sim (suc bound) n s t le rel =
    ⊎_elim
    (λ still. inl still)
    (λ go. let i = go.0 in let j = go.1.0 in let m = go.1.1.0 in let r = go.1.1.1.1 in
    moves_on a b (AtSomeRank R) s t i j (m, r) (⊎_elim (λ lt. inl lt) (λ falls. inr (goes_at a b R sim bound m (after a.step (suc i) s) (after b.step j t) (omega arith) r)) go.1.1.1.0))
    (sim.goes n s t rel)

pub two_way_ranked : {S T : Type 0} (a : Machine S) (b : Machine T) (R : ℕ → S → T → Type 0) → IsMonotone a → IsMonotone b → RankedSimulates a b R → (n : ℕ) (s : S) (t : T) → R n s t → TwoWay (seen a s) (seen b t)
two_way_ranked a b R ma mb sim n s t rel =
    two_way_by a b (AtSomeRank R) ma mb (record { same = λ s t r. sim.same r.0 s t r.1; goes = λ s t r. goes_at a b R sim (suc r.0) r.0 s t (omega arith) r.1 }) s t (n, rel)
