use Rattle.std.proofs.Common.{◌≡◌, ◌++◌, drop}
use Rattle.pcode_model.specs.Atoms.{argument_ranges}
use Rattle.stackvars.specs.Cuts.{more_cuts}
use Rattle.stackvars.proofs.cuts.push_arguments.Given as goal

abbrev pub invariant-loop-argument : goal.invariant-loop-argument
invariant-loop-argument l =
    l.marks.items ++ more_cuts (argument_ranges (drop l.argument-index l.arguments))
    ≡ l.fn.marks.items ++ more_cuts (argument_ranges l.arguments)
