use Rattle.std.proofs.Common.{refl}
use Rattle.std.specs.Fmt.{digits}
use Rattle.ssa_text.proofs.worked.texts.Goals as goal

pub returns : goal.returns
unfolding digits
returns c = record { sum = refl; endless = refl; all = refl }
