use Rattle.std.proofs.Common.{◌∙◌, ap}
use Rattle.std.specs.Prelude.{vec_items}
use Rattle.names.specs.Names.{place_in}
use Rattle.names.proofs.Places.{place_is}
use Rattle.names.proofs.table.NameTable.number.Goals as goal

pub returns-clause-place : goal.returns-clause-place
returns-clause-place c = c.get_index_of.ensures.index ∙ place_is vec_items c.args.name.now c.self.inside.names.keys ∙ ap (place_in c.args.name.now) c.self.view_is
