-- A list whose end is reached.
use Rattle.std.proofs.Common.{◌≡◌, ◌≤◌, ℕ, List, ◌++◌, drop, map, length, ap, sym, arith}
use Rattle.std.proofs.lemmas.List.{nil_from_length, length-drop}
use Rattle.machine.specs.TwoWay.{IsPrefix}
use Rattle.run_world.specs.Meaning.{event_of}
use Rattle.run_world.specs.declared.trace.Event.{Event}

none_left : (front : List Event) (i : ℕ) → length front ≤ i → length (drop i front) ≡ 0
none_left front i past = omega (arith, length-drop i front, past)

pub all_compared : (front events : List Event) (i : ℕ)
    → length front ≤ i
    → IsPrefix (map event_of (drop i front)) (map event_of (drop i events))
all_compared front events i past = (
  map event_of (drop i events),
  sym
      (ap (λ (xs : List Event). map event_of xs ++ map event_of (drop i events))
      (nil_from_length _ (none_left front i past))),
)
