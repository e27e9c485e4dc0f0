use Rattle.std.proofs.Common.{List, subst}
use Rattle.pcode_model.specs.declared.flow.Block.{Block}
use Rattle.frame_known.specs.Settling.{Settled}
use Rattle.frame_known.proofs.Facts.{are_known}
use Rattle.frame_known.proofs.known.known_facts.Goals as goal

pub returns : goal.returns
returns c =
    let s = c.in_ok-slots.slots in
    let P : List Block → Type 0 = λ blocks. Settled c.args.listing.now s blocks c.in_ok-rows.rows.items in
    are_known c.args.listing.now c.args.flow.now (record { slots = s; rows = c.in_ok-rows.rows }) c.requires.read
    c.requires.sound (c.in_ok-slots.ensures {u = tt}) c.requires.flow
    (subst P c.as_slice.ensures (c.in_ok-rows.ensures {u = tt}))
