use Rattle.parts.proofs.Parts.{changed_is}
use Rattle.parts.proofs.laws.changed_by_parts.Goals as goal

pub returns : goal.returns
returns c = changed_is
