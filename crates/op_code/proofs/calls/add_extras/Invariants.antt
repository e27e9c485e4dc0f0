use Rattle.std.proofs.Common.{◌≡◌, ◌++◌, map, drop}
use Rattle.op_code.specs.Left.{takes_left}
use Rattle.op_code.proofs.calls.add_extras.Given as goal

abbrev pub invariant-loop-taken : goal.invariant-loop-taken
invariant-loop-taken l =
    l.body ++ map takes_left (drop l.taken-index l.left) ≡ l.initial.body ++ map takes_left l.left
