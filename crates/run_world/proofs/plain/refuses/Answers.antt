use Rattle.std.proofs.Common.{◌≡◌, ◌∙◌, sym, ap, get_or}
use Rattle.pcode_model.specs.Spaces.{is_fixed, is_some}
use Rattle.run_world.specs.declared.entry.Byte.{Byte}
use Rattle.run_world.proofs.Effects.{any_here, any_later, fixed_is}
use Rattle.run_world.proofs.Steps.{same_some}
use Rattle.run_world.proofs.plain.refuses.Goals as goal

pub returns-then-is_some : goal.returns-then-is_some
returns-then-is_some c =
    let b : Byte = get_or c.args.bytes.now c.loop-b.b-index (record { space = 0; offset = 0; value = 0 }) in
    let here : is_fixed c.args.listing.now b.space b.offset ≡ c.is_some.result =
    sym (c.is_some.ensures
    ∙ same_some c.get.result
    ∙ ap is_some c.get.ensures
    ∙ fixed_is c.args.listing.now c.args.setting.now c.requires b.space b.offset) in
    sym (sym c.loop-b.invariant
    ∙ any_here (λ x. is_fixed c.args.listing.now x.space x.offset) c.args.bytes.now c.loop-b.b-index
    (record { space = 0; offset = 0; value = 0 }) c.loop-b-test.true (here ∙ c.if-is_some.true))

pub loop-b-preserved : goal.loop-b-preserved
loop-b-preserved c =
    let b : Byte = get_or c.args.bytes.now c.loop-b.b-index (record { space = 0; offset = 0; value = 0 }) in
    let here : is_fixed c.args.listing.now b.space b.offset ≡ c.is_some.result =
    sym (c.is_some.ensures
    ∙ same_some c.get.result
    ∙ ap is_some c.get.ensures
    ∙ fixed_is c.args.listing.now c.args.setting.now c.requires b.space b.offset) in
    sym (any_later (λ x. is_fixed c.args.listing.now x.space x.offset) c.args.bytes.now c.loop-b.b-index
    (record { space = 0; offset = 0; value = 0 }) c.loop-b-test.true (here ∙ c.if-is_some.false))
    ∙ c.loop-b.invariant
