use Rattle.std.proofs.Common.{◌≡◌, ◌-◌, length}
use Rattle.cread.specs.Functions.{further_width}
use Rattle.cread.specs.Words.{behind, many_by}
use Rattle.cread.proofs.functions.add_widths.Given as goal

abbrev pub invariant-loop : goal.invariant-loop
invariant-loop l = behind l.found (many_by further_width (l.end - l.counter) l.rest)
    ≡ behind l.initial.found (many_by further_width (length l.bytes) l.bytes)
