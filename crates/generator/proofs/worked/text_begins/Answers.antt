use Rattle.std.proofs.Common.{refl}
use Rattle.std.specs.Fmt.{digits}
use Rattle.generator.proofs.worked.text_begins.Goals as goal

pub returns : goal.returns
unfolding digits
returns c = record { header = refl; shape = refl; first = refl; last = refl }
