-- The definitions on small cases.
use Rattle.std.specs.Prelude.{ℕ, zero, suc, Bool, true, false, List, [], ◌∷◌, Option, Some, None}
use Rattle.machine.specs.Trace.{Event, Call, End, Returned, DivZero, Outside, Undefined, Trace}
use Rattle.machine.specs.TwoWay.{IsFront, TwoWay, bare, IsLooseFront}
use Rattle.machine.specs.Machine.{Machine, seen}
use Rattle.machine.specs.Agree.{Agree}

-- nothing has been shown yet
abbrev pub silent : Trace
silent = record { events = []; over = None }

-- ended with nothing shown before
abbrev pub ended : End → Trace
ended e = record { events = []; over = Some e }

abbrev pub returned : Option ℕ → Trace
returned word = ended (Returned word)

-- a call of the function at 4096 with the word 7
abbrev pub call : Event
call = Call 4096 (7 ∷ [])

abbrev pub called : Trace
called = record { events = call ∷ []; over = None }

-- that call, and then an end
abbrev pub called_then : End → Trace
called_then e = record { events = call ∷ []; over = Some e }

-- shows nothing for so many steps, and then all at once
abbrev pub late : ℕ → Trace → ℕ → Trace
late zero t n = t
late (suc k) t zero = silent
late (suc k) t (suc n) = late k t n

-- which small traces are fronts of which
pub record SmallFronts : Type 0 where
  pub nothing_yet : IsFront silent called
  pub shown_already : ¬ IsFront called silent
  pub before_an_end : IsFront called (called_then DivZero)
  pub after_an_end : ¬ IsFront (called_then DivZero) called
  pub no_more_events : ¬ IsFront (ended DivZero) (called_then DivZero)
  pub another_end : ¬ IsFront (ended DivZero) (returned None)
  pub another_word : ¬ IsFront (returned (Some 5)) (returned (Some 6))
  pub no_word : ¬ IsFront (returned (Some 5)) (returned None)
  pub words_dropped : IsFront (bare (returned (Some 5))) (bare (returned None))

-- a return of 5 compares with one of nothing, and that one with one of 6, but 5 isn't 6
pub record LooseFrontsDoNotCompose : Type 0 where
  pub first : IsLooseFront (returned (Some 5)) (returned None)
  pub second : IsLooseFront (returned None) (returned (Some 6))
  pub both : ¬ IsLooseFront (returned (Some 5)) (returned (Some 6))

-- waiting isn't seen, but an endless wait is no return
pub record SmallRuns : Type 0 where
  pub waits : TwoWay (late 0 (returned (Some 5))) (late 3 (returned (Some 5)))
  pub for_ever : ¬ TwoWay (λ n. silent) (late 3 (returned (Some 5)))
  pub another_word : ¬ TwoWay (late 0 (returned (Some 5))) (late 0 (returned (Some 6)))

-- Agreement is by the word where the target gives a result, and by returning alone where it gives
-- none. After the source ended Outside the target may do what it likes but end Undefined.
pub record SmallAgreements : Type 0 where
  pub gives : Agree true (late 1 (returned (Some 5))) (late 2 (returned (Some 5)))
  pub gives_none : Agree false (late 1 (returned (Some 5))) (late 2 (returned None))
  pub lacks_word : ¬ Agree true (late 1 (returned (Some 5))) (late 2 (returned None))
  pub word_too_many : ¬ Agree false (late 1 (returned (Some 5))) (late 2 (returned (Some 5)))
  pub outside : Agree true (late 1 (called_then Outside)) (late 2 (called_then (Returned (Some 6))))
  pub outside_too_early : ¬ Agree true (late 1 (called_then Outside)) (late 2 (returned (Some 6)))
  pub undefined : ¬ Agree true (late 1 (called_then Outside)) (late 2 (called_then Undefined))

-- n calls
abbrev pub calls : ℕ → List Event
calls zero = []
calls (suc n) = call ∷ calls n

-- calls at each step, for ever
abbrev pub busy : Machine ℕ
busy = record { step = suc; sight = λ n. record { events = calls n; over = None } }

pub record Turn : Type 0 where
  pub count : ℕ
  pub idle : Bool

abbrev pub turned : Bool → ℕ → Turn
turned true n = record { count = suc n; idle = false }
turned false n = record { count = n; idle = true }

-- calls at every other step, for ever
abbrev pub lazy : Machine Turn
lazy = record { step = λ t. turned t.idle t.count; sight = λ t. record { events = calls t.count; over = None } }

-- how many steps a call takes isn't seen
abbrev pub StepsAreNotSeen : Type 0
StepsAreNotSeen = TwoWay (seen busy 0) (seen lazy (record { count = 0; idle = false }))
