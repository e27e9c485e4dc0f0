-- Machines, their runs, and what relates two machines that show the same. This project's own.
-- A machine takes one step after another; a state that has ended steps to itself.
use Rattle.std.specs.Prelude.{◌≡◌, ◌<◌, ℕ, zero, suc, ◌⊎◌}
use Rattle.machine.specs.Trace.{Trace}
use Rattle.machine.specs.TwoWay.{IsFront}

-- the state after n steps
abbrev pub after : {S : Type 0} → (S → S) → ℕ → S → S
after step zero s = s
after step (suc n) s = after step n (step s)

-- the next state, and what a state has shown so far
pub record Machine (S : Type 0) : Type 0 where
  pub step : S → S
  pub sight : S → Trace

-- the run of a machine from a state: what was shown after n steps
abbrev pub seen : {S : Type 0} → Machine S → S → ℕ → Trace
seen m s n = m.sight (after m.step n s)

-- a step only adds to what is seen, and changes nothing that is seen once there is an end
abbrev pub IsMonotone : {S : Type 0} → Machine S → Type 0
IsMonotone {S} m = (s : S) → IsFront (m.sight s) (m.sight (m.step s))

-- both machines stand still
abbrev pub Rests : {S T : Type 0} → Machine S → Machine T → S → T → Type 0
Rests a b s t = (a.step s ≡ s) × (b.step t ≡ t)

-- both stand still, or after at least one step of each they are related again
abbrev pub Goes : {S T : Type 0} → Machine S → Machine T → (S → T → Type 0) → S → T → Type 0
Goes a b R s t = Rests a b s t ⊎ ((i : ℕ) × ((j : ℕ) × R (after a.step (suc i) s) (after b.step (suc j) t)))

-- Related states have shown the same and go on to related states. Between them either machine may
-- take several steps, since what is seen only grows.
pub record Simulates {S T : Type 0} (a : Machine S) (b : Machine T) (R : S → T → Type 0) : Type 0 where
  pub same : (s : S) (t : T) → R s t → a.sight s ≡ b.sight t
  pub goes : (s : S) (t : T) → R s t → Goes a b R s t

-- as Goes, but the second may stay where it is while a size of the first falls
abbrev pub GoesOrWaits : {S T : Type 0} → Machine S → Machine T → (S → T → Type 0) → (S → ℕ) → S → T → Type 0
GoesOrWaits a b R size s t =
    Rests a b s t
    ⊎ ((i : ℕ) × ((j : ℕ) × (((0 < j) ⊎ (size (after a.step (suc i) s) < size s))
    × R (after a.step (suc i) s) (after b.step j t))))

pub record WaitingSimulates {S T : Type 0} (a : Machine S) (b : Machine T) (R : S → T → Type 0) (size : S → ℕ) : Type 0 where
  pub same : (s : S) (t : T) → R s t → a.sight s ≡ b.sight t
  pub goes : (s : S) (t : T) → R s t → GoesOrWaits a b R size s t

-- as Goes, but the second may stay where it is while the rank of the pair falls, which the relation
-- names
abbrev pub GoesRanked : {S T : Type 0} → Machine S → Machine T → (ℕ → S → T → Type 0) → ℕ → S → T → Type 0
GoesRanked a b R n s t =
    Rests a b s t
    ⊎ ((i : ℕ) × ((j : ℕ) × ((m : ℕ) × (((0 < j) ⊎ (m < n))
    × R m (after a.step (suc i) s) (after b.step j t)))))

pub record RankedSimulates {S T : Type 0} (a : Machine S) (b : Machine T) (R : ℕ → S → T → Type 0) : Type 0 where
  pub same : (n : ℕ) (s : S) (t : T) → R n s t → a.sight s ≡ b.sight t
  pub goes : (n : ℕ) (s : S) (t : T) → R n s t → GoesRanked a b R n s t
