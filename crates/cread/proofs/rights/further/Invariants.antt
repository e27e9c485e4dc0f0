use Rattle.std.proofs.Common.{◌≡◌, ◌-◌, length}
use Rattle.ctext.specs.Names.{scope_of}
use Rattle.cread.specs.Statements.{further_item}
use Rattle.cread.specs.Words.{behind, many_by}
use Rattle.cread.proofs.rights.further.Given as goal

abbrev pub invariant-loop : goal.invariant-loop
invariant-loop l = behind l.found (many_by (further_item (scope_of l.f)) (l.end - l.counter) l.rest)
    ≡ behind l.initial.found (many_by (further_item (scope_of l.f)) (length l.bytes) l.bytes)
