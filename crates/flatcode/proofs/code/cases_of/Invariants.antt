use Rattle.std.proofs.Common.{◌≡◌, ◌++◌, drop, map}
use Rattle.cmeaning.specs.Flat.{arm_cases, returns_by}
use Rattle.flatcode.specs.Steps.{arms_of, case_of}
use Rattle.flatcode.proofs.code.cases_of.Given as goal

abbrev pub invariant-loop-arm : goal.invariant-loop-arm
invariant-loop-arm l =
    map case_of l.cases ++ arm_cases (arms_of (returns_by l.callees) (drop l.arm-index l.arms)) l.position
    ≡ arm_cases (arms_of (returns_by l.callees) l.arms) l.first
