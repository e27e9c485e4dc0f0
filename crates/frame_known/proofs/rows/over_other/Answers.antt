use Rattle.std.proofs.Common.{◌≡◌, ◌∙◌, ap, set}
use Rattle.frame_known.specs.Rows.{made}
use Rattle.frame_known.proofs.Passed.{given_none, given_nothing, given_slot}
use Rattle.frame_known.proofs.rows.over_other.Goals as goal

pub returns-in-Some-find : goal.returns-in-Some-find
returns-in-Some-find c =
    let m = made c.args.listing.now c.args.slots.now c.args.row.now c.args.op.now.code c.args.op.now.inputs in
    let is : c.made-made.result ≡ m = cc in
    c.set.ensures
    ∙ ap (λ r. set c.forget_written.new.row c.in-Some-find.slot r) is
    ∙ given_slot c.args.slots.now c.args.row.now c.requires.slots.rising c.requires.long m c.args.op.now.out
    c.in-Some.out c.forget_written.new.row c.in-Some-find.slot c.in-Some.is c.forget_written.ensures
    (c.in-Some-find.ensures {u = tt})

pub returns-in_default-find : goal.returns-in_default-find
returns-in_default-find c =
    given_none c.args.slots.now c.args.row.now c.requires.slots.rising c.requires.long
    (made c.args.listing.now c.args.slots.now c.args.row.now c.args.op.now.code c.args.op.now.inputs)
    c.args.op.now.out c.in-Some.out c.forget_written.new.row c.in-Some.is c.forget_written.ensures
    (c.in_default-find.ensures {u = tt})

pub returns-in_default : goal.returns-in_default
returns-in_default c =
    given_nothing c.args.slots.now c.args.row.now c.requires.slots.rising c.requires.long
    (made c.args.listing.now c.args.slots.now c.args.row.now c.args.op.now.code c.args.op.now.inputs)
    c.args.op.now.out c.in_default.is
