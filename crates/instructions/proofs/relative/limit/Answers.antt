use Rattle.instructions.proofs.Indices.{limit_by}
use Rattle.instructions.proofs.relative.limit.Goals as goal

pub returns : goal.returns
returns c = limit_by c.args.size c.requires
