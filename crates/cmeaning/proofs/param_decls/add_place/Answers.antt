use Rattle.std.specs.BTreeMap.{get}
use Rattle.cmeaning.specs.Entries.{entry_cmp}
use Rattle.cmeaning.proofs.Places.{known_there, nothing_there}
use Rattle.cmeaning.proofs.Entries.{entry_kept, entry_put}
use Rattle.cmeaning.proofs.param_decls.add_place.Goals as goal

pub returns-then-contains_key : goal.returns-then-contains_key
returns-then-contains_key c = λ listed p table same last.
    entry_kept listed p c.args.places.now c.args.key same table
    (known_there (get entry_cmp c.args.places.now c.args.key) c.contains_key.result c.contains_key.ensures
    c.if-contains_key.true)

pub returns-in-Ok : goal.returns-in-Ok
returns-in-Ok c = λ listed p table same last.
    entry_put listed p c.args.places.now c.insert.new.self c.args.key c.args.place same last table
    (nothing_there (get entry_cmp c.args.places.now c.args.key) c.contains_key.result c.contains_key.ensures
    c.if-contains_key.false) c.in-Ok.ensures.updates
