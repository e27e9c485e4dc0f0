use Rattle.std.proofs.Common.{◌≡◌, drop}
use Rattle.operations.specs.Operations.{named_by}
use Rattle.operations.proofs.reading.named.Given as goal

abbrev pub invariant-loop-operation : goal.invariant-loop-operation
invariant-loop-operation l = named_by l.word (drop l.operation-index l.operations) ≡ named_by l.word l.operations
