use Rattle.std.proofs.Common.{◌≡◌, ◌-◌, ◌+◌, SFits, drop, get_or, pos, ap, arith, rules, w32, ◌∙◌}
use Rattle.std.proofs.lemmas.Int.{to_z-of_z}
use Rattle.pcode_model.specs.declared.frame.FrameAccess.{FrameAccess}
use Rattle.pcode_model.specs.Frame.{own_in, wrapped}
use Rattle.range_words.specs.Own.{stack_size}
use Rattle.op_code.proofs.Frames.{own_step}
use Rattle.op_code.proofs.frame.FrameTable.new.Goals as goal

pub loop-at-preserved : goal.loop-at-preserved
loop-at-preserved c =
    let size = stack_size c.args.listing.now in
    let xs = c.as_slice-accesses.result.now in
    let none : FrameAccess =
    record { place = record { address = 0; index = 0 }; argument = 0; offset = pos 0; size = 0 } in
    let a = get_or xs (c.loop-at.at - 1) none in
    let fits : SFits w32 a.offset = search rules in
    let back : c.loop-at.at ≡ c.loop-at.at - 1 + 1 = omega (arith, c.loop-at-test.true) in
    own_step size (c.loop-at.at - 1) xs none c.loop-at.offsets c.insert.new.self c.from.result c.stack_offset.result
    (omega (arith, c.loop-at-test.true, c.loop-at.auto.at)) c.from.ensures
    (c.stack_offset.ensures ∙ ap (λ z. wrapped size z) (to_z-of_z w32 a.offset fits))
    c.in_ok-insert.ensures.updates (c.loop-at.invariant ∙ ap (λ n. own_in size (drop n xs)) back)

pub returns : goal.returns
returns c =
    let size = stack_size c.args.listing.now in
    let done : c.loop-at.at ≡ 0 = omega (arith, c.loop-at-test.false) in
    c.loop-at.invariant
    ∙ ap (λ n. own_in size (drop n c.as_slice-accesses.result.now)) done
    ∙ ap (own_in size) c.as_slice-accesses.ensures
