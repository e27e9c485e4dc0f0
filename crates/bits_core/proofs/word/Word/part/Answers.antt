use Rattle.std.proofs.Common.{◌∙◌}
use Rattle.bits_core.proofs.Operations.{part_far}
use Rattle.bits_core.proofs.word.Word.part.Goals as goal

pub returns-else-dropped-lt16-clause-value : goal.returns-else-dropped-lt16-clause-value
returns-else-dropped-lt16-clause-value c = let a = c.args.self in c.new-else-dropped-lt16.ensures.value ∙ part_far a.width.bytes c.args.out.bytes a.value c.args.dropped a.width.to a.below c.if-dropped-lt16.false
