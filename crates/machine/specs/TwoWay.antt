-- When two runs show the same. This project's own.
-- A run is a function from the number of steps to what was shown after so many steps.
use Rattle.std.specs.Prelude.{◌≡◌, ◌≢◌, ℕ, suc, Bool, true, false, List, ◌++◌, Option, Some, None}
use Rattle.machine.specs.Trace.{Event, End, Returned, Trace}

-- the events ys begin with xs
abbrev pub IsPrefix : List Event → List Event → Type 0
IsPrefix xs ys = (rest : List Event) × (ys ≡ xs ++ rest)

-- `t` goes on from `s`, by the end of `s`: more events where `s` has none, else `s` itself
abbrev pub GoesOn : Option End → Trace → Trace → Type 0
GoesOn None s t = IsPrefix s.events t.events
GoesOn (Some e) s t = s ≡ t

-- `s` is a front of `t`: the events of `t` begin with those of `s`, and where `s` has ended `t` has
-- the same events and the same end, its word included
abbrev pub IsFront : Trace → Trace → Type 0
IsFront s t = GoesOn s.over s t

-- What either run shows after some steps is a front of what the other shows after enough steps.
-- So both have the same events; one ends where the other does, in the same way; and a run that goes
-- on for ever is matched by one that goes on for ever.
pub record TwoWay (r s : ℕ → Trace) : Type 0 where
  pub there : (n : ℕ) → (m : ℕ) × IsFront (r n) (s m)
  pub back : (m : ℕ) → (n : ℕ) × IsFront (s m) (r n)

-- the run never comes to this end
abbrev pub NeverEnds : End → (ℕ → Trace) → Type 0
NeverEnds e r = (n : ℕ) → (r n).over ≢ Some e

-- each step only adds to what was shown, and an end is the last thing shown
abbrev pub Grows : (ℕ → Trace) → Type 0
Grows r = (n : ℕ) → IsFront (r n) (r (suc n))

-- the end without the word that it returned
abbrev pub bare_end : Option End → Option End
bare_end (Some (Returned w)) = Some (Returned None)
bare_end o = o

-- what was shown, without the word that was returned
abbrev pub bare : Trace → Trace
bare t = record { events = t.events; over = bare_end t.over }

-- what was shown, as a function that gives a result shows it (true) or one that gives none (false)
abbrev pub seen_as : Bool → Trace → Trace
seen_as true t = t
seen_as false t = bare t

-- Two returns compare by their words where both have one. Where one has none, returning is all
-- that is compared.
abbrev pub SameWord : Option ℕ → Option ℕ → Type 0
SameWord None w = Unit {0}
SameWord (Some v) None = Unit {0}
SameWord (Some v) (Some w) = v ≡ w

abbrev pub SameEnd : Option End → Option End → Type 0
SameEnd (Some (Returned v)) (Some (Returned w)) = SameWord v w
SameEnd e f = e ≡ f

-- as GoesOn, but ends compare by SameEnd
abbrev pub LooselyGoesOn : Option End → Trace → Trace → Type 0
LooselyGoesOn None s t = IsPrefix s.events t.events
LooselyGoesOn (Some e) s t = (s.events ≡ t.events) × SameEnd (Some e) t.over

-- A front, where a return without a word is matched by any return. Between a run that gives a word
-- and one that gives none this is the comparison that is meant; but it does not compose (a return
-- of 5, of nothing, of 6), so proofs go by IsFront and drop words once.
abbrev pub IsLooseFront : Trace → Trace → Type 0
IsLooseFront s t = LooselyGoesOn s.over s t

pub record LooseTwoWay (r s : ℕ → Trace) : Type 0 where
  pub there : (n : ℕ) → (m : ℕ) × IsLooseFront (r n) (s m)
  pub back : (m : ℕ) → (n : ℕ) × IsLooseFront (s m) (r n)
