use Rattle.std.proofs.Common.{◌≡◌, ◌+◌, ℕ, length, subst, sym, arith}
use Rattle.pcode_model.specs.Step.{proto_at}
use Rattle.frame_known.specs.Rows.{Row}
use Rattle.frame_known.proofs.Passed.{Called, called_all, called_more}
use Rattle.frame_known.proofs.rows.over_call.Goals as goal

pub loop-slot-preserved : goal.loop-slot-preserved
loop-slot-preserved c =
    let p = proto_at c.args.listing.now c.args.proto in
    let x = c.loop-slot.invariant in
    let P : Row → Type 0 = λ r. Called c.args.listing.now c.args.slots.now p (c.loop-slot.slot + 1) c.args.row.now r in
    subst P (sym c.set.ensures)
    (called_more c.args.listing.now c.args.slots.now p c.loop-slot.slot c.args.row.now c.loop-slot.row c.left.result x
    (omega (arith, c.requires.long)) cc)

pub returns : goal.returns
returns c =
    let p = proto_at c.args.listing.now c.args.proto in
    let end : c.loop-slot.slot ≡ length c.args.slots.now.keys.items = omega (arith, c.loop-slot.auto.slot-end) in
    let P : ℕ → Type 0 = λ n. Called c.args.listing.now c.args.slots.now p n c.args.row.now c.loop-slot.row in
    called_all c.args.listing.now c.args.slots.now p c.args.row.now c.loop-slot.row c.requires.slots.rising
    c.requires.long (subst P end c.loop-slot.invariant)
