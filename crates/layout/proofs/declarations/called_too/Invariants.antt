use Rattle.std.proofs.Common.{◌≡◌, drop}
use Rattle.layout.specs.Callees.{called_by}
use Rattle.layout.proofs.declarations.called_too.Given as goal

abbrev pub invariant-loop-statement : goal.invariant-loop-statement
invariant-loop-statement l =
    called_by l.known (drop l.statement-index l.statements) ≡ called_by l.initial.known l.statements
