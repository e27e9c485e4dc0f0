use Rattle.std.proofs.Common.{◌≡◌, ◌++◌, drop}
use Rattle.pcode_model.specs.Atoms.{kept_ranges}
use Rattle.stackvars.specs.Cuts.{more_cuts}
use Rattle.stackvars.proofs.cuts.push_kept.Given as goal

abbrev pub invariant-loop-proto : goal.invariant-loop-proto
invariant-loop-proto l =
    l.marks.items ++ more_cuts (kept_ranges (drop l.proto-index l.protos))
    ≡ l.fn.marks.items ++ more_cuts (kept_ranges l.protos)
