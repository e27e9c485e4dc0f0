use Rattle.std.proofs.Common.{◌≡◌, ◌-◌, length}
use Rattle.cread.specs.Functions.{further_param}
use Rattle.cread.specs.Words.{behind, many_by}
use Rattle.cread.proofs.functions.add_params.Given as goal

abbrev pub invariant-loop : goal.invariant-loop
invariant-loop l = behind l.found (many_by further_param (l.end - l.counter) l.rest)
    ≡ behind l.initial.found (many_by further_param (length l.bytes) l.bytes)
