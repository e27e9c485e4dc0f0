use Rattle.std.specs.Prelude.{vec_items}
use Rattle.names.proofs.Places.{grown}
use Rattle.names.proofs.table.NameTable.push.Goals as goal
use Rattle.names.proofs.table.NameTable.push.Goals.{in-Ok, in-Err}

pub returns-clause-ok : goal.returns-clause-ok
returns-clause-ok c = elim c.match-insert.branch [
  | in-Ok w ↦ rw w.result-is (grown vec_items c.args.name.now c.args.self.now c.self.inside.names.keys c.insert.new.self.keys c.in_ok-copy.copy c.self.view_is c.in_ok-copy.ensures.items c.requires (w.in-Ok.ensures {u = tt}).keys)
  | in-Err w ↦ rw w.result-is tt
]
