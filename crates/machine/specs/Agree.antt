-- When a run of the target agrees with a run of the source, up to where the source ends Outside.
-- This project's own.
use Rattle.std.specs.Prelude.{◌≡◌, ◌≢◌, ℕ, Bool, Some, ◌⊎◌}
use Rattle.machine.specs.Trace.{Outside, Undefined, Trace}
use Rattle.machine.specs.TwoWay.{IsPrefix, TwoWay, LooseTwoWay, NeverEnds, seen_as}
use Rattle.machine.specs.Machine.{Machine}

-- `gives` says whether the target gives a result. Where it gives none, its returns carry no word, and
-- the source's word is dropped.
-- same: where the source never ends Outside, both show the same.
-- until: where it ends so, the target shows the events before, and may go on.
-- defined: the target never ends Undefined, whatever the source does.
pub record Agree (gives : Bool) (source target : ℕ → Trace) : Type 0 where
  pub same : NeverEnds Outside source → TwoWay (λ n. seen_as gives (source n)) target
  pub until : (n : ℕ) → (source n).over ≡ Some Outside
      → (m : ℕ) × IsPrefix (source n).events (target m).events
  pub defined : NeverEnds Undefined target

-- agreement, where a return without a word is matched by any return
pub record AgreeLoosely (source target : ℕ → Trace) : Type 0 where
  pub same : NeverEnds Outside source → LooseTwoWay source target
  pub until : (n : ℕ) → (source n).over ≡ Some Outside
      → (m : ℕ) × IsPrefix (source n).events (target m).events
  pub defined : NeverEnds Undefined target

-- The frame run has variables of its own where the source has bytes on its stack, and no Outside.
-- Both show the same at each step until the source ends Outside. There its events are a prefix of the
-- frame run's.
pub record FrameLaw (source frame : ℕ → Trace) : Type 0 where
  pub same : (n : ℕ) → (source n).over ≢ Some Outside → source n ≡ frame n
  pub until : (n : ℕ) → (source n).over ≡ Some Outside → IsPrefix (source n).events (frame n).events

-- the first has ended Outside, and the second has shown at least its events
pub record IsOut (s t : Trace) : Type 0 where
  pub over : s.over ≡ Some Outside
  pub events : IsPrefix s.events t.events

-- related states have shown the same, and a step of each leads to related states or the first Outside
pub record Follows {S T : Type 0} (a : Machine S) (b : Machine T) (R : S → T → Type 0) : Type 0 where
  pub same : (s : S) (t : T) → R s t → a.sight s ≡ b.sight t
  pub goes : (s : S) (t : T) → R s t
      → R (a.step s) (b.step t) ⊎ IsOut (a.sight (a.step s)) (b.sight (b.step t))
