use Rattle.std.specs.Ordering.{nat_cmp}
use Rattle.std.specs.BTreeMap.{get}
use Rattle.cmeaning.proofs.Places.{known_there, nothing_there, address_kept, address_put}
use Rattle.cmeaning.proofs.callees.add_address.Goals as goal

pub returns-then-contains_key : goal.returns-then-contains_key
returns-then-contains_key c = λ listed d table same last.
    address_kept listed d c.args.addresses.now c.args.address same table
    (known_there (get nat_cmp c.args.addresses.now c.args.address) c.contains_key.result c.contains_key.ensures
    c.if-contains_key.true)

pub returns-in-Ok : goal.returns-in-Ok
returns-in-Ok c = λ listed d table same last.
    address_put listed d c.args.addresses.now c.insert.new.self c.args.address c.args.place same last table
    (nothing_there (get nat_cmp c.args.addresses.now c.args.address) c.contains_key.result c.contains_key.ensures
    c.if-contains_key.false) c.in-Ok.ensures.updates
