use Rattle.std.proofs.Common.{◌≡◌, ◌++◌, map, drop}
use Rattle.layout.specs.Callees.{width_passed}
use Rattle.layout.proofs.declarations.widths_passed.Given as goal

abbrev pub invariant-loop-argument : goal.invariant-loop-argument
invariant-loop-argument l =
    l.widths ++ map width_passed (drop l.argument-index l.arguments) ≡ map width_passed l.arguments
