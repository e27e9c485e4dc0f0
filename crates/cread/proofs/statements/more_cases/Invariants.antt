use Rattle.std.proofs.Common.{◌≡◌, ◌-◌, length}
use Rattle.cread.specs.Statements.{case_at}
use Rattle.cread.specs.Words.{behind, many_by}
use Rattle.cread.proofs.statements.more_cases.Given as goal

abbrev pub invariant-loop : goal.invariant-loop
invariant-loop l = behind l.found (many_by case_at (l.end - l.counter) l.rest)
    ≡ behind l.initial.found (many_by case_at (length l.bytes) l.bytes)
