use Rattle.std.proofs.Common.{◌≡◌, ◌++◌, drop}
use Rattle.stackvars.specs.Collected.{frame_ranges}
use Rattle.stackvars.proofs.collected.push_frame.Given as goal

abbrev pub invariant-loop-access : goal.invariant-loop-access
invariant-loop-access l =
    l.out.items ++ frame_ranges (drop l.access-index l.accesses) ≡ l.fn.out.items ++ frame_ranges l.accesses
