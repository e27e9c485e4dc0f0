use Rattle.std.proofs.lemmas.Result.{IfOk-weaker}
use Rattle.operations.proofs.Exact.{exact}
use Rattle.operations.proofs.reading.opcode.Goals as goal

pub returns-clause-only : goal.returns-clause-only
returns-clause-only c = IfOk-weaker c.first_of.result _ _ (λ x e. exact c.args.word.now x e) c.first_of.ensures
