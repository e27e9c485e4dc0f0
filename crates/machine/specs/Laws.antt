-- What is proved of runs. Each law is the contract of a function of its name.
use Rattle.std.specs.Prelude.{◌≡◌, ◌≤◌, ℕ, Bool, IsTrue, Some}
use Rattle.machine.specs.Trace.{End, Undefined, Trace}
use Rattle.machine.specs.TwoWay.{IsPrefix, IsFront, TwoWay, NeverEnds, Grows, bare, seen_as, LooseTwoWay}
use Rattle.machine.specs.Machine.{Machine, seen, IsMonotone, WaitingSimulates, RankedSimulates}
use Rattle.machine.specs.Agree.{Agree, AgreeLoosely, FrameLaw, Follows}

-- each trace is a front of itself, a front of a front is a front, and fronts of each other are the same
pub record FrontsAreAnOrder : Type 0 where
  pub itself : (s : Trace) → IsFront s s
  pub chain : (s t u : Trace) → IsFront s t → IsFront t u → IsFront s u
  pub both : (s t : Trace) → IsFront s t → IsFront t s → s ≡ t

pub record TwoWayComposes : Type 0 where
  pub itself : (r : ℕ → Trace) → TwoWay r r
  pub turned : (r s : ℕ → Trace) → TwoWay r s → TwoWay s r
  pub chain : (r s t : ℕ → Trace) → TwoWay r s → TwoWay s t → TwoWay r t

-- What two-way runs share. Where one ends, the other comes to show exactly the same. An end that one
-- never comes to, the other never comes to. The events that one shows, the other shows.
pub record TwoWayShares : Type 0 where
  pub ends : (r s : ℕ → Trace) → TwoWay r s
      → (n : ℕ) (e : End) → (r n).over ≡ Some e → (m : ℕ) × (s m ≡ r n)
  pub never : (e : End) (r s : ℕ → Trace) → TwoWay r s → NeverEnds e r → NeverEnds e s
  pub events : (r s : ℕ → Trace) → TwoWay r s
      → (n : ℕ) → (m : ℕ) × IsPrefix (r n).events (s m).events

-- after an end nothing changes
abbrev pub EndsStay : Type 0
EndsStay = (r : ℕ → Trace) → Grows r
    → (n k : ℕ) (e : End) → (r n).over ≡ Some e → n ≤ k → r k ≡ r n

-- Two-way runs stay so when the words of returns are dropped from both. Where the first run is two-way
-- with the second, its words kept or dropped, the two are two-way in the loose sense.
pub record WordsMayBeDropped : Type 0 where
  pub from_both : (r s : ℕ → Trace) → TwoWay r s → TwoWay (λ n. bare (r n)) (λ n. bare (s n))
  pub loose : (gives : Bool) (r s : ℕ → Trace)
      → TwoWay (λ n. seen_as gives (r n)) s → LooseTwoWay r s

-- A simulation gives two-way runs, from any two states that are related.
-- A law can't speak of every type of states, so this one speaks of states that are numbers and of
-- relations that are tests. The lemmas two_way_waiting, two_way_ranked and frame_law_by in proofs/
-- speak of all.
pub record SimulationsShowTheSame : Type 0 where
  pub waiting : (a b : Machine ℕ) (related : ℕ → ℕ → Bool) (size : ℕ → ℕ)
      → IsMonotone a → IsMonotone b → WaitingSimulates a b (λ s t. IsTrue (related s t)) size
      → (s t : ℕ) → IsTrue (related s t) → TwoWay (seen a s) (seen b t)
  pub ranked : (a b : Machine ℕ) (related : ℕ → ℕ → ℕ → Bool)
      → IsMonotone a → IsMonotone b → RankedSimulates a b (λ n s t. IsTrue (related n s t))
      → (n s t : ℕ) → IsTrue (related n s t) → TwoWay (seen a s) (seen b t)
  pub follows : (a b : Machine ℕ) (related : ℕ → ℕ → Bool)
      → IsMonotone a → IsMonotone b → Follows a b (λ s t. IsTrue (related s t))
      → (s t : ℕ) → IsTrue (related s t) → FrameLaw (seen a s) (seen b t)

-- The source agrees with the target where the frame law holds of the source and a frame run, and the
-- frame run, its words dropped where the target gives no result, is two-way with the target.
abbrev pub FrameGivesAgreement : Type 0
FrameGivesAgreement = (gives : Bool) (source frame target : ℕ → Trace)
    → FrameLaw source frame → TwoWay (λ n. seen_as gives (frame n)) target
    → NeverEnds Undefined target → Agree gives source target

-- agreement goes on along a two-way run of the target, and it holds in the loose sense
pub record AgreementGoesOn : Type 0 where
  pub along : (gives : Bool) (source middle target : ℕ → Trace)
      → Agree gives source middle → TwoWay middle target → Agree gives source target
  pub loose : (gives : Bool) (source target : ℕ → Trace)
      → Agree gives source target → AgreeLoosely source target
