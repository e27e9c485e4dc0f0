use Rattle.std.proofs.Common.{◌≡◌, ◌-◌, length}
use Rattle.cread.specs.Functions.{local_at}
use Rattle.cread.specs.Words.{behind, many_by}
use Rattle.cread.proofs.functions.locals.Given as goal

abbrev pub invariant-loop : goal.invariant-loop
invariant-loop l = behind l.found (many_by local_at (l.end - l.counter) l.rest)
    ≡ many_by local_at (length l.bytes) l.bytes
