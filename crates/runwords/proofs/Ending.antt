-- A call that ends as the files are read.
use Rattle.std.proofs.Common.{◌≡◌, Option, Some, Result, Err, subst}
use Rattle.outside.specs.Told.{Told}
use Rattle.outside.specs.declared.reading.ReadEnd.{ReadEnd}
use Rattle.runwords.specs.Fetched.{AllFetched}
use Rattle.runwords.specs.Request.{Asked}
use Rattle.statuses.specs.Cause.{Reads}
use Rattle.runwords.specs.declared.files.Inputs.{Inputs}

pub ends_so : (asked : Option Asked) (a : Asked) (old new : Told) (came : Result Inputs ReadEnd) (end : ReadEnd)
    → asked ≡ Some a
    → AllFetched a old new came
    → came ≡ Err end
    → Reads asked (λ b c. AllFetched b old new c) (Err end)
ends_so asked a old new came end is fetched e = (a, (is, subst (AllFetched a old new) e fetched))
