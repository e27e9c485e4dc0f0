use Rattle.std.specs.BTreeMap.{get}
use Rattle.cmeaning.proofs.Places.{known_there, nothing_there}
use Rattle.op_code.specs.Numbers.{key_cmp}
use Rattle.op_code.proofs.Numbers.{number_kept, number_put}
use Rattle.op_code.proofs.table.add_number.Goals as goal

pub returns-then-contains_key : goal.returns-then-contains_key
returns-then-contains_key c = λ listed v table same last.
    number_kept listed v c.args.numbers.now c.args.key same table
    (known_there (get key_cmp c.args.numbers.now c.args.key) c.contains_key.result c.contains_key.ensures
    c.if-contains_key.true)

pub returns-in-Ok : goal.returns-in-Ok
returns-in-Ok c = λ listed v table same last.
    number_put listed v c.args.numbers.now c.args.key same table c.insert.new.self c.args.number last
    (nothing_there (get key_cmp c.args.numbers.now c.args.key) c.contains_key.result c.contains_key.ensures
    c.if-contains_key.false) c.in-Ok.ensures.updates
