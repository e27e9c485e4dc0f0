-- What steps of flat code that borrow from a tree stand for. This project's own.
use Rattle.std.specs.Prelude.{ℕ, Bool, List, map, slice_get, Option, Some, None}
use Rattle.cmeaning.specs.declared.tree.Arm.{Arm}
use Rattle.cmeaning.specs.Flat.{Flat, Do, Test, Jump, Choose, Give, Branch, pieces_of}
use Rattle.flatcode.specs.declared.step.Case.{Case}
use Rattle.flatcode.specs.declared.step.Step.{Step}
use Rattle.flatcode.specs.declared.step.Step.TheVariants as step
use Rattle.flatcode.specs.declared.step.FlatCode.{FlatCode}

-- a case as its value and its position
abbrev pub case_of : Case → ℕ × ℕ
case_of c = (c.value, c.position)

-- by the position of each label
abbrev pub flat_step : (ℕ → ℕ) → Step → Flat
flat_step place (step.Do s) = Do s.now
flat_step place (step.Test c p q) = Test c.now p q
flat_step place (step.Jump to) = Jump to
flat_step place (step.Goto n) = Jump (place n)
flat_step place (step.Choose e cases other) = Choose e.now (map case_of cases) other
flat_step place (step.Give e) = Give e.now

abbrev pub flat_steps : (ℕ → ℕ) → List Step → List Flat
flat_steps place steps = map (flat_step place) steps

abbrev pub or_end : Option (Option ℕ) → ℕ → ℕ
or_end None end = end
or_end (Some None) end = end
or_end (Some (Some p)) end = p

-- the position of a label, by a table of positions by number; one that has none stands at the end
abbrev pub place_in : List (Option ℕ) → ℕ → ℕ → ℕ
place_in table end n = or_end (slice_get table n) end

-- the flat code that is stood for
abbrev pub code_of : FlatCode → List Flat
code_of code = flat_steps (place_in code.labels.items code.end) code.steps.items

-- an arm of a switch, with the pieces of its body
abbrev pub arm_of : (ℕ → Bool) → Arm → Branch
arm_of returns a = record { cases = a.cases; body = pieces_of returns a.body }

abbrev pub arms_of : (ℕ → Bool) → List Arm → List Branch
arms_of returns arms = map (arm_of returns) arms
