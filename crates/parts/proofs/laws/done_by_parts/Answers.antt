use Rattle.parts.proofs.Parts.{do_by_parts}
use Rattle.parts.proofs.laws.done_by_parts.Goals as goal

pub returns : goal.returns
returns c = do_by_parts
