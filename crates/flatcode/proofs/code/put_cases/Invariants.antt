use Rattle.std.proofs.Common.{◌≡◌, ◌++◌, drop, map}
use Rattle.cmeaning.specs.Flat.{cases_at}
use Rattle.flatcode.specs.Steps.{case_of}
use Rattle.flatcode.proofs.code.put_cases.Given as goal

abbrev pub invariant-loop-value : goal.invariant-loop-value
invariant-loop-value l =
    map case_of l.cases ++ cases_at l.position (drop l.value-index l.values)
    ≡ map case_of l.initial.cases ++ cases_at l.position l.values
