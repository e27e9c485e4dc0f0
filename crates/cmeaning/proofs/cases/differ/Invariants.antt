use Rattle.std.proofs.Common.{◌≡◌, drop}
use Rattle.cmeaning.specs.Arms.{differ_from}
use Rattle.cmeaning.proofs.cases.differ.Given as goal

abbrev pub invariant-loop-i : goal.invariant-loop-i
invariant-loop-i l = differ_from (drop l.i l.values) l.later ≡ differ_from l.values l.later
