use Rattle.std.proofs.Common.{◌∙◌, ap}
use Rattle.std.proofs.lemmas.Result.{IfOk-weaker}
use Rattle.pcodetext.specs.Meaning.{reading}
use Rattle.listing_again.proofs.Whole.{read_again}
use Rattle.listing_again.proofs.again.print_listing.Goals as goal

pub returns-clause-again : goal.returns-clause-again
returns-clause-again c =
    IfOk-weaker c.print_listing.result _ _
    (λ text printed some. ap reading printed ∙ read_again some.0 c.args.listing.now some.1) c.print_listing.ensures
