use Rattle.std.specs.Prelude.{vec_items}
use Rattle.cmeaning.proofs.Places.{known_there, nothing_there, name_kept, name_put, at}
use Rattle.cmeaning.proofs.callees.add_text.Goals as goal
use Rattle.cmeaning.proofs.callees.add_text.Goals.{in-Ok, in-Err}

pub returns-then-contains_key : goal.returns-then-contains_key
returns-then-contains_key c = λ listed d table named last.
    name_kept vec_items listed d c.args.names.now c.args.text.now named table
    (known_there (at vec_items c.args.names.now c.args.text.now) c.contains_key.result c.contains_key.ensures
    c.if-contains_key.true)

pub returns : goal.returns
returns c = λ listed d table named last. elim c.match-insert.branch [
  | in-Ok w ↦ rw w.result-is
      (name_put vec_items listed d c.args.names.now c.insert.new.self c.in_ok-copy.copy c.args.text.now c.args.place
      named c.in_ok-copy.ensures.items last table
      (nothing_there (at vec_items c.args.names.now c.args.text.now) c.contains_key.result c.contains_key.ensures
      c.if-contains_key.false) (w.in-Ok.ensures {u = tt}).updates)
  | in-Err w ↦ rw w.result-is tt
]
