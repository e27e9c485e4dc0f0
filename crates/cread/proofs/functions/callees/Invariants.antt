use Rattle.std.proofs.Common.{◌≡◌, ◌-◌, length}
use Rattle.cread.specs.Functions.{callee_at}
use Rattle.cread.specs.Words.{behind, many_by}
use Rattle.cread.proofs.functions.callees.Given as goal

abbrev pub invariant-loop : goal.invariant-loop
invariant-loop l = behind l.found (many_by callee_at (l.end - l.counter) l.rest)
    ≡ many_by callee_at (length l.bytes) l.bytes
