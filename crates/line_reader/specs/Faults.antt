-- The tests of a line, in the order in which its faults count.
use Rattle.std.specs.Prelude.{Bool, List, [], ◌∷◌, Option, Some, None, if◌then◌else◌}

-- the fault of the first test that holds
abbrev pub first_fault : {Fault : Type 0} → List (Bool × Fault) → Option Fault
first_fault [] = None
first_fault (test ∷ rest) = if test.0 then Some test.1 else first_fault rest
