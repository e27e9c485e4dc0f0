use Rattle.heritage_laws.proofs.Strict.{certified_strict}
use Rattle.heritage_laws.proofs.shows.certified_is_strict.Goals as goal

pub returns : goal.returns
returns c = λ tables certified.
    certified_strict c.args.listing.now c.args.code.now c.args.parts.now c.known.ensures tables certified
