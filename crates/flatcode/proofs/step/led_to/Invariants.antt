use Rattle.std.proofs.Common.{◌≡◌, drop, map}
use Rattle.cmeaning.specs.Flat.{found_in}
use Rattle.flatcode.specs.Steps.{case_of}
use Rattle.flatcode.proofs.step.led_to.Given as goal

abbrev pub invariant-loop-c : goal.invariant-loop-c
invariant-loop-c l =
    found_in (map case_of (drop l.c-index l.cases)) l.other l.value ≡ found_in (map case_of l.cases) l.other l.value
