use Rattle.std.proofs.Common.{◌≡◌, ◌++◌, drop}
use Rattle.pcode_model.specs.Atoms.{registers_at}
use Rattle.stackvars.specs.Cuts.{more_cuts}
use Rattle.stackvars.proofs.cuts.push_registers.Given as goal

abbrev pub invariant-loop-range : goal.invariant-loop-range
invariant-loop-range l =
    l.marks.items ++ more_cuts (registers_at (drop l.range-index l.ranges))
    ≡ l.fn.marks.items ++ more_cuts (registers_at l.ranges)
