use Rattle.std.specs.Prelude.{vec_items}
use Rattle.names.proofs.Places.{shrunk}
use Rattle.names.proofs.table.NameTable.pop.Goals as goal

pub returns : goal.returns
returns c names name = shrunk vec_items c.self.inside.names.keys c.pop.new.self.keys c.pop.result c.args.self.now names name c.pop.ensures.keys c.pop.ensures.found.1 c.self.view_is
