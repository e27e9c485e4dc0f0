-- Why a call comes to its answer, from the parts of the call.
use Rattle.std.proofs.Common.{◌≡◌, ℕ, List, Option, Some, Result, Ok, Err}
use Rattle.outside.specs.declared.reading.ReadEnd.{ReadEnd}
use Rattle.outside.specs.declared.reading.ReadEnd.TheVariants.{Fault, Memory}
use Rattle.outside.specs.declared.reading.ReadEnd.TheVariants as end
use Rattle.statuses.specs.Answer as answer
use Rattle.statuses.specs.Answer.{Answer}
use Rattle.statuses.specs.Cause.{Because, Ends, Judges}

ok_memory : {I : Type 0} (i : I) → ◌≡◌ {A = Result I ReadEnd} (Ok i) (Err Memory) → ⊥
ok_memory i h = cc

fault_memory : {I : Type 0} → ◌≡◌ {A = Result I ReadEnd} (Err Fault) (Err Memory) → ⊥
fault_memory h = cc

long_memory : {I : Type 0} → ◌≡◌ {A = Result I ReadEnd} (Err end.TooLong) (Err Memory) → ⊥
long_memory h = cc

module _ {A I : Type 0} (Shows Faults : A → I → List ℕ → Type 0) (asked : Option A)
    (reads : A → Result I ReadEnd → Type 0) where
  -- a call that ended before an input was judged
  pub ended : (o : Answer) → Ends asked reads o → Because Shows Faults asked reads o
  ended (answer.Shown text) h = absurd h
  ended (answer.Refused line) h = absurd h
  ended answer.BadArguments h = h
  ended answer.ReadFault h = h
  ended answer.TooLong h = h
  ended answer.Memory h = tt

  -- a call whose input was read whole and judged
  pub judged : (a : A) (i : I)
      → asked ≡ Some a
      → reads a (Ok i)
      → (o : Answer)
      → Judges Shows Faults a i o
      → Because Shows Faults asked reads o
  judged a i is read (answer.Shown text) h = (a, (i, (is, (read, h))))
  judged a i is read (answer.Refused line) h = (a, (i, (is, (read, h))))
  judged a i is read answer.BadArguments h = absurd h
  judged a i is read answer.ReadFault h = absurd h
  judged a i is read answer.TooLong h = absurd h
  judged a i is read answer.Memory h = tt

  -- the same of what must come of reading, where this comes unless memory ran out
  pub settled : (must : A → Result I ReadEnd → Type 0)
      → ((a : A) → asked ≡ Some a → (came : Result I ReadEnd) → reads a came → (came ≡ Err Memory → ⊥) → must a came)
      → (o : Answer) → Because Shows Faults asked reads o → Because Shows Faults asked must o
  settled must comes (answer.Shown text) (a, (i, (is, (read, h)))) =
      (a, (i, (is, (comes a is (Ok i) read (ok_memory i), h))))
  settled must comes (answer.Refused line) (a, (i, (is, (read, h)))) =
      (a, (i, (is, (comes a is (Ok i) read (ok_memory i), h))))
  settled must comes answer.BadArguments h = h
  settled must comes answer.ReadFault (a, (is, read)) = (a, (is, comes a is (Err Fault) read fault_memory))
  settled must comes answer.TooLong (a, (is, read)) = (a, (is, comes a is (Err end.TooLong) read long_memory))
  settled must comes answer.Memory h = tt
