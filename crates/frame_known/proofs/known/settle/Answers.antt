use Rattle.std.proofs.Common.{◌≡◌, ◌<◌, Bool, List, true, length, Some, refl, ap, subst, arith}
use Rattle.std.specs.Prelude.{slice_get, vec_len}
use Rattle.std.proofs.lemmas.Option.{slice_get_read}
use Rattle.frame_known.specs.Entering.{waits_at}
use Rattle.frame_known.proofs.Passing.{nexts_inside, rows_long, settling_passed}
use Rattle.frame_known.proofs.known.settle.Goals as goal

pub pass-requires-clause-inside : goal.pass-requires-clause-inside
pass-requires-clause-inside c =
    let n = c.in-Some.number in
    let x = c.index-blocks-number.result in
    let w = c.in-Some.ensures {u = tt} in
    let lt : n < length c.args.blocks.now = omega arith in
    let here : slice_get c.args.blocks.now n ≡ Some x =
    slice_get_read c.args.blocks.now (length c.args.blocks.now) n x refl lt c.index-blocks-number.is in
    let long : vec_len c.loop-number.rows ≡ length c.args.blocks.now =
    omega (arith, c.loop-number.invariant.settling.long, c.loop-number.rows.ok.0) in
    nexts_inside c.args.listing.now c.args.blocks.now c.requires.flow (vec_len c.loop-number.rows) n x long here
    c.requires.sound

pub pass-requires-clause-long : goal.pass-requires-clause-long
pass-requires-clause-long c =
    rows_long c.args.listing.now c.requires.read c.args.slots.now c.requires.slots c.loop-number.rows.items
    c.loop-number.invariant.settling.fine

pub loop-number-smaller : goal.loop-number-smaller
loop-number-smaller c =
    let n = c.in-Some.number in
    let x = c.index-blocks-number.result in
    let w = c.in-Some.ensures {u = tt} in
    let lt : n < length c.args.blocks.now =
    omega (arith, w.0, ap length c.deref.ensures.value, c.loop-number.invariant.settling.long_waits) in
    let here : slice_get c.args.blocks.now n ≡ Some x =
    slice_get_read c.args.blocks.now (length c.args.blocks.now) n x refl lt c.index-blocks-number.is in
    let wait : waits_at c.loop-number.waits.items n ≡ true =
    subst (λ (xs : List Bool). waits_at xs n ≡ true) c.deref.ensures.value w.1 in
    let step =
    settling_passed c.args.listing.now c.requires.read c.args.slots.now c.requires.slots c.args.blocks.now n x
    c.loop-number.rows.items c.loop-number.waits.items c.pass.new.rows.items c.pass.new.waits.items c.requires.flow
    c.requires.sound c.loop-number.invariant.settling here wait (c.in_ok-pass.ensures {u = tt}) in
    step.1

pub loop-number-preserved : goal.loop-number-preserved
loop-number-preserved c =
    let n = c.in-Some.number in
    let x = c.index-blocks-number.result in
    let w = c.in-Some.ensures {u = tt} in
    let lt : n < length c.args.blocks.now =
    omega (arith, w.0, ap length c.deref.ensures.value, c.loop-number.invariant.settling.long_waits) in
    let here : slice_get c.args.blocks.now n ≡ Some x =
    slice_get_read c.args.blocks.now (length c.args.blocks.now) n x refl lt c.index-blocks-number.is in
    let wait : waits_at c.loop-number.waits.items n ≡ true =
    subst (λ (xs : List Bool). waits_at xs n ≡ true) c.deref.ensures.value w.1 in
    let step =
    settling_passed c.args.listing.now c.requires.read c.args.slots.now c.requires.slots c.args.blocks.now n x
    c.loop-number.rows.items c.loop-number.waits.items c.pass.new.rows.items c.pass.new.waits.items c.requires.flow
    c.requires.sound c.loop-number.invariant.settling here wait (c.in_ok-pass.ensures {u = tt}) in
    record { settling = step.0; inside = omega (arith, lt) }
