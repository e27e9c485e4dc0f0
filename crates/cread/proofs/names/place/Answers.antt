use Rattle.std.proofs.Common.{◌∙◌}
use Rattle.cread.specs.Names.{is_entry}
use Rattle.cread.proofs.Places.{place_is, place_within}
use Rattle.cread.proofs.names.place.Goals as goal

pub returns-clause-value : goal.returns-clause-value
returns-clause-value c = c.place.ensures ∙ place_is c.args.e c.args.params.now

pub returns-clause-within : goal.returns-clause-within
returns-clause-within c = place_within (is_entry c.args.e) c.args.params.now c.place.result c.place.ensures
