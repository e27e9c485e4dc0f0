use Rattle.std.proofs.Common.{◌≡◌, take, get_or, sym, ap, ◌∙◌, arith}
use Rattle.std.proofs.lemmas.List.{take_more}
use Rattle.flow.proofs.Listed.{places_in, places_more, are_places, take_whole}
use Rattle.flow.proofs.places.places.Goals as goal

pub loop-instruction-preserved : goal.loop-instruction-preserved
loop-instruction-preserved c =
    let code = c.as_slice-instruction-items.result.now in
    let k = c.loop-instruction.instruction-index in
    let i = c.instruction-item.result in
    let e = take_more code k i c.loop-instruction-test.true in
    let f = places_more (take k code) (get_or code k i) in
    let g = c.in_ok-add_places.ensures {u = tt} in
    let h : get_or code k i ≡ i = sym c.instruction-item.is in
    cc

pub returns : goal.returns
returns c =
    are_places c.args.listing.now c.as_slice-instruction-items.result.now c.loop-instruction.places.items
    c.as_slice-instruction-items.ensures c.requires
    (c.loop-instruction.invariant
    ∙ ap places_in
    (take_whole c.as_slice-instruction-items.result.now c.loop-instruction.instruction-index (omega arith)))
