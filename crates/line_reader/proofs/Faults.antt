-- What follows where no test of a line holds.
use Rattle.std.proofs.Common.{◌≡◌, Bool, true, false, List, [], ◌∷◌, refl}
use Rattle.std.specs.Prelude.{Option, Some, None, if◌then◌else◌}
use Rattle.line_reader.specs.Faults.{first_fault}
use Rattle.line_reader.specs.Reading.{Step}
use Rattle.line_reader.specs.Reading.Step.{Fails, Goes}

module _ {Fault : Type 0} where
  -- no test of the list holds
  abbrev pub AllFalse : List (Bool × Fault) → Type 0
  AllFalse [] = Unit {0}
  AllFalse (test ∷ rest) = (test.0 ≡ false) × AllFalse rest

  none_some : (fault : Fault) → ◌≡◌ {A = Option Fault} (Some fault) None → ⊥
  none_some fault e = cc

  -- a line that has no fault passes every test
  pub all_false : (tests : List (Bool × Fault)) → first_fault tests ≡ None → AllFalse tests
  all_false [] none = tt
  all_false (test ∷ rest) none = by_test test.0 refl none (all_false rest)
    where
      by_test : (t : Bool) → test.0 ≡ t
          → (if t then Some test.1 else first_fault rest) ≡ None
          → (first_fault rest ≡ None → AllFalse rest)
          → (test.0 ≡ false) × AllFalse rest
      by_test true e first on = absurd (none_some test.1 first)
      by_test false e first on = (e, on first)

module _ {State Fault : Type 0} where
  -- lines that lead on to one state
  pub goes_same : (s t : State) → ◌≡◌ {A = Step State Fault} (Goes s) (Goes t) → s ≡ t
  goes_same s t e = cc

  pub fails_not : (fault : Fault) (t : State) → ◌≡◌ {A = Step State Fault} (Fails fault) (Goes t) → ⊥
  fails_not fault t e = cc
